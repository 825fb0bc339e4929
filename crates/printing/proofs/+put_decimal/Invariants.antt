-- `printing::put_decimal` meets its contract. The digits before the last are those of the tenth part, which is smaller (`Digits`). Assumes nothing.
use Rattle.printing.proofs.+put_decimal.Given as goal

abbrev pub decreases-put_decimal : goal.decreases-put_decimal
decreases-put_decimal l = l.n
