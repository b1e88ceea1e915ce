-- `cells::readings::reading_of` meets its contract.
use Rattle.cells.proofs.shapes.Shapes.{stall-shape, go-shape}
use Rattle.cells.proofs.readings.reading_of.Goals as goal

pub stall_of-requires : goal.stall_of-requires
stall_of-requires c = (stall-shape _ _ (rw c.in-Stall.is at c.requires.0), c.requires.1, c.requires.2, c.requires.3)

pub go_of-requires : goal.go_of-requires
go_of-requires c = (go-shape _ _ (rw c.in-Go.is at c.requires.0), c.requires.1, c.requires.2, c.requires.3)
