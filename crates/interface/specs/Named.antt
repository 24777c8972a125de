-- The calls of demand 3 for C and Rust: the contract of each, as the toolchain reads it, is the step of `Run` of its name, over the numbers that it
-- returns; that of open is the hypothesis of `Claim.after_open`, and the statement's says besides that its place is 0. So demand 3 is about lists of them too.
-- (proofs/Names, `named`: by `refl`, so an `ensures` that is not the one of its name breaks it)
use Rattle.std.specs.Prelude.{◌≡◌}
use contract.Lifetimes
use borrow.Fn.Kinds
use Rattle.account.specs.Account.{account}
use Rattle.statement.specs.Parts.{outputs}
use Rattle.account.specs.Calls.{OpenMet}
use Rattle.history.specs.Run.{Step}
use Rattle.history.specs.Run as run
use Rattle.ffi.proofs.arvadush_open.Kinds as open-kinds
use Rattle.ffi.proofs.arvadush_open.Reads as open-reads
use Rattle.ffi.proofs.arvadush_reading.Kinds as reading-kinds
use Rattle.ffi.proofs.arvadush_reading.Reads as reading-reads
use Rattle.ffi.proofs.arvadush_withdraw.Kinds as withdraw-kinds
use Rattle.ffi.proofs.arvadush_withdraw.Reads as withdraw-reads
use Rattle.ffi.proofs.arvadush_cut.Kinds as cut-kinds
use Rattle.ffi.proofs.arvadush_cut.Reads as cut-reads
use Rattle.ffi.proofs.arvadush_uncut.Kinds as uncut-kinds
use Rattle.ffi.proofs.arvadush_uncut.Reads as uncut-reads
use Rattle.ffi.proofs.arvadush_statement.Kinds as statement-kinds
use Rattle.ffi.proofs.arvadush_statement.Reads as statement-reads

-- a: what the call is given; r: what it returns; s: what its references show after it
pub record Named : Type 1 where
  pub open_is : (κs : Lifetimes.Lfts 3) (a : Kinds.Dens κs open-kinds.ps) (r : _) (s : _) →
      open-reads.Post κs a r s ≡ OpenMet (account a.0.now a.1.0.now a.1.1.0.now) r (account a.0.now s.1.0.now s.1.1.0.now)
  pub reading_is : (κs : Lifetimes.Lfts 3) (a : Kinds.Dens κs reading-kinds.ps) (r : _) (s : _) →
      reading-reads.Post κs a r s ≡ Step (account a.0.now a.1.0.now a.1.1.0.now) (run.reading a.1.1.1.0 a.1.1.1.1.0 r (account a.0.now s.1.0.now s.1.1.0.now))
  pub withdraw_is : (κs : Lifetimes.Lfts 3) (a : Kinds.Dens κs withdraw-kinds.ps) (r : _) (s : _) →
      withdraw-reads.Post κs a r s ≡ Step (account a.0.now a.1.0.now a.1.1.0.now) (run.withdraw a.1.1.1.0 r (account a.0.now s.1.0.now s.1.1.0.now))
  pub cut_is : (κs : Lifetimes.Lfts 3) (a : Kinds.Dens κs cut-kinds.ps) (r : _) (s : _) →
      cut-reads.Post κs a r s ≡ Step (account a.0.now a.1.0.now a.1.1.0.now) (run.cut a.1.1.1.0 r (account a.0.now s.1.0.now a.1.1.0.now))
  pub uncut_is : (κs : Lifetimes.Lfts 3) (a : Kinds.Dens κs uncut-kinds.ps) (r : _) (s : _) →
      uncut-reads.Post κs a r s ≡ Step (account a.0.now a.1.0.now a.1.1.0.now) (run.uncut a.1.1.1.0 r (account a.0.now s.1.0.now a.1.1.0.now))
  pub statement_is : (κs : Lifetimes.Lfts 6) (a : Kinds.Dens κs statement-kinds.ps) (r : _) (s : _) →
      statement-reads.Post κs a r s ≡ (Step (account a.0.now a.1.0.now a.1.1.0.now) (run.statement (outputs a.1.1.1.0.now a.1.1.1.1.0.now a.1.1.1.1.1.0.now) r.number r.value (account a.0.now a.1.0.now a.1.1.0.now) (outputs s.1.1.1.0.now s.1.1.1.1.0.now s.1.1.1.1.1.0.now)) × (r.place ≡ 0))
