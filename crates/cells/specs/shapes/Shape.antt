-- The shape of a cell's line: whose cell it is, and whether it stalls or goes on; else the field that is told of it.
use Rattle.std.specs.Prelude.{◌≤◌, ◌≡◌, true, false, cond, length, Result}
use Rattle.text.specs.Words.{stall_word}
use Rattle.papers.specs.declared.refused.Field.{Field}
use Rattle.tables.specs.declared.Controller.{Controller}
use Rattle.text.specs.Line.{Line, says}
use Rattle.lines.specs.Line.{cell, cell_controller}
use Rattle.lines.specs.Checks.{shaped, stall_shape}
use Rattle.lines.specs.shapes.Shapes.{shape_told}
use Rattle.cells.specs.declared.shapes.Shape.{Shape}
use Rattle.cells.specs.declared.shapes.Shape.TheVariants.{Stall, Go}

unfoldable pub shape_of : Line → Result Shape Field
shape_of f = shape_told cell f (cond (stall_shape f) (Stall (cell_controller f)) (Go (cell_controller f)))

-- The line is a stalling cell of this controller.
pub record StallLine (f : Line) (whose : Controller) : Type 0 where
  pub shape : shaped cell f ≡ true
  pub is : whose ≡ cell_controller f
  pub word : says f 4 stall_word ≡ true
  pub long : length f ≡ 5

-- The line is a cell of this controller that goes on.
pub record GoLine (f : Line) (whose : Controller) : Type 0 where
  pub shape : shaped cell f ≡ true
  pub is : whose ≡ cell_controller f
  pub word : says f 4 stall_word ≡ false
  pub some : 6 ≤ length f
  pub few : length f ≤ 14
