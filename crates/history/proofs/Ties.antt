-- The calls of demand 3 are the crates' own functions: each contract is the step by computation, so one that is weakened breaks this.
-- Assumes nothing.
use mathlib.Core.Path.{refl}
use Rattle.history.specs.Tied.{Tied}

pub tied : Tied
tied =
    record {
      open_is = λ κs a r s. refl;
      reading_is = λ κs a r s. refl;
      withdraw_is = λ κs a r s. refl;
      cut_is = λ κs a r s. refl;
      uncut_is = λ κs a r s. refl;
      statement_is = λ κs a r s. refl;
      weights_is = λ κs a r s. refl;
      open_asks_nothing = λ κs a. refl;
      reading_asks_nothing = λ κs a. refl;
      withdraw_asks_nothing = λ κs a. refl;
      cut_asks_nothing = λ κs a. refl;
      uncut_asks_nothing = λ κs a. refl;
      statement_asks_nothing = λ κs a. refl;
      weights_asks_nothing = λ κs a. refl;
    }
