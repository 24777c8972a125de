-- `layout::put::digits`, which calls itself: the number falls to a tenth.
use Rattle.layout.proofs.put.+digits.Given as goal

abbrev pub decreases-digits : goal.decreases-digits
decreases-digits l = l.n
