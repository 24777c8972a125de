-- Each call of demand 3 for C and Rust has the contract of its name, by computation. Assumes nothing.
use mathlib.Core.Path.{refl}
use Rattle.interface.specs.Named.{Named}

pub named : Named
named =
    record {
      open_is = λ κs a r s. refl;
      reading_is = λ κs a r s. refl;
      withdraw_is = λ κs a r s. refl;
      cut_is = λ κs a r s. refl;
      uncut_is = λ κs a r s. refl;
      statement_is = λ κs a r s. refl;
    }
