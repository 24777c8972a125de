-- What the private functions of the profile value promise (Profile value): its steps, each equal to its definition.
use Rattle.std.specs.Prelude.{◌≡◌, ℕ, ◌≤◌, ◌^◌, ℤ, nat_abs}
use Rattle.profile.specs.Value.{s_low, s_high, line, larger, value_low, value_high}
use Rattle.profile.specs.Coefficients.{profile_of}
use Rattle.profile.specs.declared.Profile.{Profile}

pub record SharesMet (p : Profile) (t : ℤ) (low high : ℕ) : Type 0 where
  pub low_is : low ≡ s_low p t
  pub high_is : high ≡ s_high p t

pub record LineMet (m b t r : ℤ) : Type 0 where
  pub is : r ≡ line m b t
  pub small : nat_abs r ≤ 2 ^ 47

pub record LargerMet (p : Profile) (t r : ℤ) : Type 0 where
  pub is : r ≡ larger (line p.mh p.bh t) (line p.mw p.bw t)
  pub small : nat_abs r ≤ 2 ^ 47

pub record ValuesMet (k : ℕ) (t low high : ℤ) : Type 0 where
  pub low_is : low ≡ value_low (profile_of k) t
  pub high_is : high ≡ value_high (profile_of k) t
