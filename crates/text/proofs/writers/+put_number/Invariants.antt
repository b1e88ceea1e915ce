-- `text::writers::put_number` ends: what is left of the number falls.
use Rattle.text.proofs.writers.+put_number.Given as goal

abbrev pub decreases-put_number : goal.decreases-put_number
decreases-put_number l = l.n
