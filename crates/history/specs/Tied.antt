-- The calls of demand 3 are the crates' own functions: for each of the six, the contract as the toolchain reads it IS the step of `Run` (of
-- open, the hypothesis of `Claim.after_open`), and so for the weights call; and none asks anything of its caller, "each entry point checks its own input".
-- (proofs/Ties, `tied`: by `refl`, so a contract that is weakened breaks it)
use Rattle.std.specs.Prelude.{◌≡◌}
use contract.Lifetimes
use borrow.Fn.Kinds
use Rattle.account.specs.Account.{account}
use Rattle.common.specs.Refusals.{number, value}
use Rattle.common.specs.Placed as placed
use Rattle.account.specs.Calls.{OpenMet}
use Rattle.account.proofs.open.Kinds as open-kinds
use Rattle.account.proofs.open.Reads as open-reads
use Rattle.account.proofs.reading.Kinds as reading-kinds
use Rattle.account.proofs.reading.Reads as reading-reads
use Rattle.account.proofs.withdraw.Kinds as withdraw-kinds
use Rattle.account.proofs.withdraw.Reads as withdraw-reads
use Rattle.account.proofs.cut.Kinds as cut-kinds
use Rattle.account.proofs.cut.Reads as cut-reads
use Rattle.account.proofs.uncut.Kinds as uncut-kinds
use Rattle.account.proofs.uncut.Reads as uncut-reads
use Rattle.weights.specs.Weights.{WeightsMet}
use Rattle.weights.proofs.weights.Kinds as weights-kinds
use Rattle.weights.proofs.weights.Reads as weights-reads
use Rattle.statement.specs.Parts.{outputs}
use Rattle.statement.proofs.statement.Kinds as statement-kinds
use Rattle.statement.proofs.statement.Reads as statement-reads
use Rattle.history.specs.Run.{Step}
use Rattle.history.specs.Run as run

-- a function asks nothing of its caller: its `requires`, as the toolchain reads them, say nothing, whatever lifetimes and arguments it is given
abbrev pub AsksNothing : {Lifetimes : Type 0} {Arguments : Lifetimes → Type 0} → ((κs : Lifetimes) → Arguments κs → Type 0) → Type 1
AsksNothing {Lifetimes} {Arguments} requires = (κs : Lifetimes) (a : Arguments κs) → requires κs a ≡ Unit {0}

-- a: what the function is given; r: what it answers; s: what its references show after it
pub record Tied : Type 1 where
  pub open_is : (κs : Lifetimes.Lfts 3) (a : Kinds.Dens κs open-kinds.ps) (r : _) (s : _) →
      open-reads.Post κs a r s ≡ OpenMet (account a.0.now a.1.0.now a.1.1.0.now) (number r) (account a.0.now s.1.0.now s.1.1.0.now)
  pub reading_is : (κs : Lifetimes.Lfts 3) (a : Kinds.Dens κs reading-kinds.ps) (r : _) (s : _) →
      reading-reads.Post κs a r s ≡
      Step (account a.0.now a.1.0.now a.1.1.0.now) (run.reading a.1.1.1.0 a.1.1.1.1.0 (number r) (account a.0.now s.1.0.now s.1.1.0.now))
  pub withdraw_is : (κs : Lifetimes.Lfts 3) (a : Kinds.Dens κs withdraw-kinds.ps) (r : _) (s : _) →
      withdraw-reads.Post κs a r s ≡
      Step (account a.0.now a.1.0.now a.1.1.0.now) (run.withdraw a.1.1.1.0 (number r) (account a.0.now s.1.0.now s.1.1.0.now))
  pub cut_is : (κs : Lifetimes.Lfts 3) (a : Kinds.Dens κs cut-kinds.ps) (r : _) (s : _) →
      cut-reads.Post κs a r s ≡ Step (account a.0.now a.1.0.now a.1.1.0.now) (run.cut a.1.1.1.0 (number r) (account a.0.now s.1.0.now a.1.1.0.now))
  pub uncut_is : (κs : Lifetimes.Lfts 3) (a : Kinds.Dens κs uncut-kinds.ps) (r : _) (s : _) →
      uncut-reads.Post κs a r s ≡ Step (account a.0.now a.1.0.now a.1.1.0.now) (run.uncut a.1.1.1.0 (number r) (account a.0.now s.1.0.now a.1.1.0.now))
  pub statement_is : (κs : Lifetimes.Lfts 6) (a : Kinds.Dens κs statement-kinds.ps) (r : _) (s : _) →
      statement-reads.Post κs a r s ≡
      Step (account a.0.now a.1.0.now a.1.1.0.now)
      (run.statement (outputs a.1.1.1.0.now a.1.1.1.1.0.now a.1.1.1.1.1.0.now) (number r) (value r) (account a.0.now a.1.0.now a.1.1.0.now)
      (outputs s.1.1.1.0.now s.1.1.1.1.0.now s.1.1.1.1.1.0.now))
  pub weights_is : (κs : Lifetimes.Lfts 3) (a : Kinds.Dens κs weights-kinds.ps) (r : _) (s : _) →
      weights-reads.Post κs a r s ≡
      WeightsMet a.0 a.1.0 a.1.1.0.now a.1.1.1.0.now a.1.1.1.1.0.now (placed.number r) (placed.place r) s.1.1.1.1.0.now a.1.1.0.now a.1.1.1.0.now
  pub open_asks_nothing : AsksNothing open-reads.Pre
  pub reading_asks_nothing : AsksNothing reading-reads.Pre
  pub withdraw_asks_nothing : AsksNothing withdraw-reads.Pre
  pub cut_asks_nothing : AsksNothing cut-reads.Pre
  pub uncut_asks_nothing : AsksNothing uncut-reads.Pre
  pub statement_asks_nothing : AsksNothing statement-reads.Pre
  pub weights_asks_nothing : AsksNothing weights-reads.Pre
