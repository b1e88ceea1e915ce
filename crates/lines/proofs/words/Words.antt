-- The fixed words: what a field is found to say, from the comparisons with each word.
use Prim.Native.Nat.{ℕ}
use mathlib.Core.Path.{◌≡◌}
use mathlib.Core.Bool.{true, false}
use mathlib.Core.List.{List}
use Rattle.text.specs.Parts.{is_same_text}
use Rattle.text.specs.Words.{req_word, fwd_word, data_word, ctl_word, cache_word, dir_word, stable_word, transient_word}
use Rattle.tables.specs.declared.Kind.{Kind}
use Rattle.tables.specs.declared.Kind.TheVariants.{Req, Fwd, Data, Ctl}
use Rattle.std.specs.Prelude.{Some, None}
use Rattle.lines.specs.words.Found.{found_kind, found_controller, found_stability}
use native.Mathlib.Omega.{arith}
use Rattle.tables.specs.declared.Controller.{Controller}
use Rattle.tables.specs.declared.Controller.TheVariants.{Cache, Dir}
use Rattle.tables.specs.declared.Stability.{Stability}
use Rattle.tables.specs.declared.Stability.TheVariants.{Stable, Transient}
use Rattle.lines.specs.Line.{is_kind, kind_of, is_controller, controller_of, is_stability, stability_of}
use Rattle.text.proofs.Found.{found-is, found_nothing}

module _ (x : List ℕ) where
  pub says-req : is_same_text x req_word ≡ true → Some Req ≡ found_kind x
  unfolding found_kind
  says-req a = rw a

  pub says-fwd : is_same_text x req_word ≡ false → is_same_text x fwd_word ≡ true → Some Fwd ≡ found_kind x
  unfolding found_kind
  says-fwd a b = rw (a, b)

  pub says-data : is_same_text x req_word ≡ false → is_same_text x fwd_word ≡ false → is_same_text x data_word ≡ true → Some Data ≡ found_kind x
  unfolding found_kind
  says-data a b c = rw (a, b, c)

  pub says-ctl : is_same_text x req_word ≡ false → is_same_text x fwd_word ≡ false → is_same_text x data_word ≡ false → is_same_text x ctl_word ≡ true → Some Ctl ≡ found_kind x
  unfolding found_kind
  says-ctl a b c d = rw (a, b, c, d)

  pub says-no-kind : is_same_text x req_word ≡ false → is_same_text x fwd_word ≡ false → is_same_text x data_word ≡ false → is_same_text x ctl_word ≡ false → None ≡ found_kind x
  unfolding found_kind
  says-no-kind a b c d = rw (a, b, c, d)

-- ---- a state

module _ (x : List ℕ) where
  pub says-cache : is_same_text x cache_word ≡ true → Some Cache ≡ found_controller x
  unfolding found_controller
  says-cache a = rw a

  pub says-dir : is_same_text x cache_word ≡ false → is_same_text x dir_word ≡ true → Some Dir ≡ found_controller x
  unfolding found_controller
  says-dir a b = rw (a, b)

  pub says-no-controller : is_same_text x cache_word ≡ false → is_same_text x dir_word ≡ false → None ≡ found_controller x
  unfolding found_controller
  says-no-controller a b = rw (a, b)

  pub says-stable : is_same_text x stable_word ≡ true → Some Stable ≡ found_stability x
  unfolding found_stability
  says-stable a = rw a

  pub says-transient : is_same_text x stable_word ≡ false → is_same_text x transient_word ≡ true → Some Transient ≡ found_stability x
  unfolding found_stability
  says-transient a b = rw (a, b)

  pub says-no-stability : is_same_text x stable_word ≡ false → is_same_text x transient_word ≡ false → None ≡ found_stability x
  unfolding found_stability
  says-no-stability a b = rw (a, b)

-- ---- what was found tells what the field is

module _ (x : List ℕ) where
  pub kind-is : (k : Kind) → Some k ≡ found_kind x → (is_kind x ≡ true) × (k ≡ kind_of x)
  unfolding found_kind
  kind-is k e = found-is Some None (λ a b q. cc) (λ a q. let z : ◌≡◌ {A = ℕ} 0 1 = cc in omega arith) (is_kind x) (kind_of x) k e

  pub kind-nothing : None ≡ found_kind x → is_kind x ≡ false
  unfolding found_kind
  kind-nothing e = found_nothing Some None (λ a b q. cc) (λ a q. let z : ◌≡◌ {A = ℕ} 0 1 = cc in omega arith) (is_kind x) (kind_of x) e

  pub controller-is : (k : Controller) → Some k ≡ found_controller x → (is_controller x ≡ true) × (k ≡ controller_of x)
  unfolding found_controller
  controller-is k e = found-is Some None (λ a b q. cc) (λ a q. let z : ◌≡◌ {A = ℕ} 0 1 = cc in omega arith) (is_controller x) (controller_of x) k e

  pub controller-nothing : None ≡ found_controller x → is_controller x ≡ false
  unfolding found_controller
  controller-nothing e = found_nothing Some None (λ a b q. cc) (λ a q. let z : ◌≡◌ {A = ℕ} 0 1 = cc in omega arith) (is_controller x) (controller_of x) e

  pub stability-is : (k : Stability) → Some k ≡ found_stability x → (is_stability x ≡ true) × (k ≡ stability_of x)
  unfolding found_stability
  stability-is k e = found-is Some None (λ a b q. cc) (λ a q. let z : ◌≡◌ {A = ℕ} 0 1 = cc in omega arith) (is_stability x) (stability_of x) k e

  pub stability-nothing : None ≡ found_stability x → is_stability x ≡ false
  unfolding found_stability
  stability-nothing e = found_nothing Some None (λ a b q. cc) (λ a q. let z : ◌≡◌ {A = ℕ} 0 1 = cc in omega arith) (is_stability x) (stability_of x) e
