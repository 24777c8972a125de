-- The ten profiles (Profiles): "Numbers 0 to 9, in the order of table 4"; "Coefficients A, B, C, D, mH, bH, mW, bW are whole ten-millionths,
-- factors F whole ten-thousandths, Monday 0 to Sunday 6." The numbers are those of tables 4 and 5 of source document 001.
use Rattle.std.specs.Prelude.{List, [], ◌∷◌, ℕ, pos, get_or}
use Rattle.profile.specs.Limits.{minus}
use Rattle.profile.specs.declared.Profile.{Profile}

-- table 4: A, B, C, D, mH, bH, mW, bW; table 5: Monday to Sunday
abbrev pub hef33 : Profile
hef33 = record { a = 16_209_544; b = minus 371_833_141; c = 56_727_847; d = 716_431; mh = minus 495_700; bh = pos 8_401_015; mw = minus 22_090; bw = pos 1_074_468; factors = 10_000 ∷ 10_000 ∷ 10_000 ∷ 10_000 ∷ 10_000 ∷ 10_000 ∷ 10_000 ∷ [] }

abbrev pub hmf33 : Profile
hmf33 = record { a = 12_328_655; b = minus 347_213_605; c = 58_164_304; d = 873_352; mh = minus 409_284; bh = pos 7_672_920; mw = minus 22_320; bw = pos 1_199_207; factors = 10_000 ∷ 10_000 ∷ 10_000 ∷ 10_000 ∷ 10_000 ∷ 10_000 ∷ 10_000 ∷ [] }

abbrev pub hko03 : Profile
hko03 = record { a = 4_040_932; b = minus 244_392_968; c = 65_718_175; d = 7_107_710; mh = pos 0; bh = pos 0; mw = pos 0; bw = pos 0; factors = 10_000 ∷ 10_000 ∷ 10_000 ∷ 10_000 ∷ 10_000 ∷ 10_000 ∷ 10_000 ∷ [] }

abbrev pub ghd33 : Profile
ghd33 = record { a = 13_010_623; b = minus 356_816_144; c = 66_857_976; d = 1_409_267; mh = minus 473_428; bh = pos 8_141_691; mw = minus 10_601; bw = pos 1_325_092; factors = 10_300 ∷ 10_300 ∷ 10_200 ∷ 10_300 ∷ 10_100 ∷ 9_300 ∷ 9_500 ∷ [] }

abbrev pub gmk33 : Profile
gmk33 = record { a = 14_202_419; b = minus 348_806_130; c = 65_951_899; d = 385_317; mh = minus 521_084; bh = pos 8_647_919; mw = minus 14_369; bw = pos 637_602; factors = 10_699 ∷ 10_365 ∷ 9_933 ∷ 9_948 ∷ 10_659 ∷ 9_362 ∷ 9_034 ∷ [] }

abbrev pub gko33 : Profile
gko33 = record { a = 13_554_515; b = minus 351_412_563; c = 71_303_395; d = 990_619; mh = minus 526_487; bh = pos 8_626_086; mw = minus 8_808; bw = pos 964_014; factors = 10_354 ∷ 10_523 ∷ 10_449 ∷ 10_494 ∷ 9_885 ∷ 8_860 ∷ 9_435 ∷ [] }

abbrev pub gbh33 : Profile
gbh33 = record { a = 9_874_283; b = minus 352_532_124; c = 61_544_406; d = 2_265_716; mh = minus 339_020; bh = pos 6_938_234; mw = minus 12_849; bw = pos 2_029_732; factors = 9_767 ∷ 10_389 ∷ 10_028 ∷ 10_162 ∷ 10_024 ∷ 10_043 ∷ 9_587 ∷ [] }

abbrev pub gba33 : Profile
gba33 = record { a = 2_770_087; b = minus 330_000_000; c = 57_212_303; d = 4_865_118; mh = minus 94_849; bh = pos 4_630_237; mw = minus 7_134; bw = pos 3_867_447; factors = 10_848 ∷ 11_211 ∷ 10_769 ∷ 11_353 ∷ 11_402 ∷ 4_852 ∷ 9_565 ∷ [] }

abbrev pub gga33 : Profile
gga33 = record { a = 11_582_082; b = minus 362_878_584; c = 65_885_126; d = 2_235_680; mh = minus 410_335; bh = pos 7_526_451; mw = minus 9_088; bw = pos 1_916_641; factors = 9_322 ∷ 9_894 ∷ 10_033 ∷ 10_109 ∷ 10_180 ∷ 10_356 ∷ 10_106 ∷ [] }

abbrev pub gmf33 : Profile
gmf33 = record { a = 12_328_655; b = minus 347_213_605; c = 58_164_304; d = 873_352; mh = minus 409_284; bh = pos 7_672_920; mw = minus 22_320; bw = pos 1_199_207; factors = 10_354 ∷ 10_523 ∷ 10_449 ∷ 10_494 ∷ 9_885 ∷ 8_860 ∷ 9_435 ∷ [] }

abbrev pub table : List Profile
table = hef33 ∷ hmf33 ∷ hko03 ∷ ghd33 ∷ gmk33 ∷ gko33 ∷ gbh33 ∷ gba33 ∷ gga33 ∷ gmf33 ∷ []

-- what is given where there is no profile of a number
abbrev pub no_profile : Profile
no_profile = record { a = 0; b = pos 0; c = 0; d = 0; mh = pos 0; bh = pos 0; mw = pos 0; bw = pos 0; factors = 0 ∷ 0 ∷ 0 ∷ 0 ∷ 0 ∷ 0 ∷ 0 ∷ [] }

-- the profile of a number
unfoldable pub profile_of : ℕ → Profile
profile_of k = get_or table k no_profile
