-- The profile value, or h value (Profile value): "Written for temperature t in hundredths." Each definition below has its sentence of that section above it.
use Rattle.std.specs.Prelude.{◌≡◌, Bool, true, cond, ℕ, ◌+◌, ◌*◌, ◌/◌, ◌^◌, ◌≤◌, ◌<◌, leb, ℤ, pos, nat_abs, ◌+ℤ◌, ◌-ℤ◌, ◌*ℤ◌, ◌≤ℤ◌}
use Rattle.std.specs.Int.Signed.{le_z}
use Rattle.profile.specs.declared.Profile.{Profile}
use Rattle.power.specs.Power.{one, upward, p_low, p_high, Encloses}
use Rattle.profile.specs.Limits.{in_range}

-- "Let b be |B| and u = (4,000 - t) × 100,000": u is above 0 where t is in range, at most 3,999
abbrev pub b_of : Profile → ℕ
b_of p = nat_abs p.b

abbrev pub u_of : ℤ → ℕ
u_of t = nat_abs (pos 4_000 -ℤ t) * 100_000

-- "Cold side: b at most u, then N = b, M = u. Otherwise warm side: N = u, M = b."
abbrev pub cold : Profile → ℤ → Bool
cold p t = leb (b_of p) (u_of t)

abbrev pub ratio_n : Profile → ℤ → ℕ
ratio_n p t = cond (cold p t) (b_of p) (u_of t)

abbrev pub ratio_m : Profile → ℤ → ℕ
ratio_m p t = cond (cold p t) (u_of t) (b_of p)

abbrev pub low_power : Profile → ℤ → ℕ
low_power p t = p_low (ratio_n p t) (ratio_m p t) p.c

abbrev pub high_power : Profile → ℤ → ℕ
high_power p t = p_high (ratio_n p t) (ratio_m p t) p.c

-- "Share s: cold, sLow = floor(2^60 / (one + pHigh)), sHigh is 2^60 / (one + pLow) rounded up;
-- warm, sLow = floor(pLow × one / (one + pLow)), sHigh the same with pHigh, rounded up."
abbrev pub s_low : Profile → ℤ → ℕ
s_low p t =
    cond (cold p t)
    (2 ^ 60 / (one + high_power p t))
    (low_power p t * one / (one + low_power p t))

abbrev pub s_high : Profile → ℤ → ℕ
s_high p t =
    cond (cold p t)
    (upward (2 ^ 60) (one + low_power p t))
    (upward (high_power p t * one) (one + high_power p t))

-- "the larger of mH × t + 100 × bH and mW × t + 100 × bW"
abbrev pub line : ℤ → ℤ → ℤ → ℤ
line m b t = m *ℤ t +ℤ pos 100 *ℤ b

abbrev pub larger : ℤ → ℤ → ℤ
larger x y = cond (le_z x y) y x

-- "100 × D + the larger of" the two lines
unfoldable pub linear : Profile → ℤ → ℤ
linear p t = pos (100 * p.d) +ℤ larger (line p.mh p.bh t) (line p.mw p.bw t)

-- "The value in units of 10^-9, low and high, is A × 100 × s / one (down for low, up for high) + 100 × D + the larger of" the two lines
unfoldable pub value_low : Profile → ℤ → ℤ
value_low p t = pos (p.a * 100 * s_low p t / one) +ℤ linear p t

unfoldable pub value_high : Profile → ℤ → ℤ
value_high p t = pos (upward (p.a * 100 * s_high p t) one) +ℤ linear p t

-- "The exact power y is the number with y^(10^7) = (N/M)^C": the powers enclose it
abbrev pub EnclosedPower : Profile → ℤ → Type 0
EnclosedPower p t = Encloses (ratio_n p t) (ratio_m p t) p.c (low_power p t) (high_power p t)

-- no ratio is above one, and the powers enclose, whatever eight coefficients a profile has (proofs/Power, `any_profile`)
abbrev pub AnyProfile : Type 0
AnyProfile = (p : Profile) (t : ℤ) → in_range t ≡ true → (0 < ratio_m p t) × (ratio_n p t ≤ ratio_m p t) × EnclosedPower p t

-- the share of a power y / d (in units of 2^-30) is this over one × d + y: 1 / (1 + power) cold, power / (1 + power) warm
abbrev pub share_over : Profile → ℤ → (y d : ℕ) → ℕ
share_over p t y d = cond (cold p t) (one * d) y

-- the value with that share, times one × d + y
abbrev pub value_over : Profile → ℤ → (y d : ℕ) → ℤ
value_over p t y d = pos (p.a * 100 * share_over p t y d) +ℤ linear p t *ℤ pos (one * d + y)

-- that share lies between sLow and sHigh, and that value between the low and the high value
pub record Enclosed (p : Profile) (t : ℤ) (y d : ℕ) : Type 0 where
  pub share_low : s_low p t * (one * d + y) ≤ one * share_over p t y d
  pub share_high : one * share_over p t y d ≤ s_high p t * (one * d + y)
  pub low_bound : (value_low p t *ℤ pos (one * d + y)) ≤ℤ value_over p t y d
  pub high_bound : value_over p t y d ≤ℤ (value_high p t *ℤ pos (one * d + y))

-- for every power between the two that the rules give, whatever profile (proofs/Enclosed, `values_enclose`)
abbrev pub ValuesEnclose : Type 0
ValuesEnclose = (p : Profile) (t : ℤ) (y d : ℕ) → low_power p t * d ≤ y → y ≤ high_power p t * d → Enclosed p t y d

-- the low value is at most the high value, whatever profile (proofs/Enclosed, `values_in_order`)
abbrev pub ValuesInOrder : Type 0
ValuesInOrder = (p : Profile) (t : ℤ) → in_range t ≡ true → value_low p t ≤ℤ value_high p t
