-- What a field is found to say: a message's type, a state's controller, stable or transient.
use Rattle.std.specs.Prelude.{ℕ, cond, List, Option, Some, None}
use Rattle.tables.specs.declared.Kind.{Kind}
use Rattle.tables.specs.declared.Controller.{Controller}
use Rattle.tables.specs.declared.Stability.{Stability}
use Rattle.lines.specs.Line.{is_kind, kind_of, is_controller, controller_of, is_stability, stability_of}

unfoldable pub found_kind : List ℕ → Option Kind
found_kind x = cond (is_kind x) (Some (kind_of x)) None

-- ---- a state

unfoldable pub found_controller : List ℕ → Option Controller
found_controller x = cond (is_controller x) (Some (controller_of x)) None

unfoldable pub found_stability : List ℕ → Option Stability
found_stability x = cond (is_stability x) (Some (stability_of x)) None
