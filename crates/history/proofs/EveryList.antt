-- Every list of calls runs (demand 3: "for every list"): each call answers what the table says, and leaves the slices that its contract names.
-- Assumes nothing.
use mathlib.Core.Path.{◌≡◌, refl, ap₂}
use mathlib.Core.List.{List, [], ◌∷◌, map}
use Rattle.common.specs.Rows.{if_done}
use Rattle.account.specs.Account.{Account}
use Rattle.account.specs.Refusals.{reading_number, withdraw_number, cut_number, uncut_number}
use Rattle.account.specs.Calls.{reading_put, reading_removed, cut_put, cut_removed}
use Rattle.statement.specs.Call.{ruling}
use Rattle.history.specs.History.{Call}
use Rattle.history.specs.Run.{Event, Step, Run, call, account_after}
use Rattle.history.specs.Run as run

step : (a : Account) (c : Call) → (e : Event) × Step a e × (call e ≡ c)
step a (Call.reading k v) =
    (run.reading k v (reading_number a k v) (if_done (reading_number a k v) (reading_put a k v) a), record { answers = refl; leaves = refl }, refl)
step a (Call.withdraw k) = (run.withdraw k (withdraw_number a k) (if_done (withdraw_number a k) (reading_removed a k) a), record { answers = refl; leaves = refl }, refl)
step a (Call.cut k) = (run.cut k (cut_number a k) (if_done (cut_number a k) (cut_put a k) a), record { answers = refl; leaves = refl }, refl)
step a (Call.uncut k) = (run.uncut k (uncut_number a k) (if_done (uncut_number a k) (cut_removed a k) a), record { answers = refl; leaves = refl }, refl)
step a (Call.statement lent) =
    let r = ruling a lent in
    (run.statement lent r.number r.parts a r.memory, record { answers = refl; gives = refl; stays = refl; writes = refl }, refl)

pub every_list_runs : (a : Account) (cs : List Call) → (es : List Event) × Run a es × (map call es ≡ cs)
every_list_runs a [] = ([], tt, refl)
every_list_runs a (c ∷ cs) =
    let (e, met, is) = step a c in
    let (es, runs, are) = every_list_runs (account_after e) cs in
    (e ∷ es, (met, runs), ap₂ ◌∷◌ is are)
