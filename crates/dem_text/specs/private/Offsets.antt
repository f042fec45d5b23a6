-- How the shift of a line's coordinates is summed, and what 128 bits have room for. (Stim's detector error model format,
-- github.com/quantumlib/Stim, doc/file_format_dem_detector_error_model.md, "shift_detectors".)
use Rattle.std.specs.Prelude.{ℕ, ◌+◌, ◌-◌, ◌*◌, ◌<◌, ◌^◌, nat_abs, ℤ, pos, List, ◌++◌, length, replicate, All, slice_index_or}
use Rattle.dem_text.specs.Shifts.{Shift}

-- the number at a place, 0 past the end
abbrev pub number_at : List ℤ → ℕ → ℤ
number_at numbers place = slice_index_or numbers place (pos 0)

-- the least magnitude that no number of a line has
abbrev pub beyond_stated : ℕ
beyond_stated = 1_000_000_000_000_000_000

abbrev pub AreSmall : List ℤ → Type 0
AreSmall numbers = All (λ n. nat_abs n < beyond_stated) numbers

-- 128 bits with a sign have room for the shifts of this many lines more
pub record HasRoom (s : Shift) (lines : ℕ) : Type 0 where
  pub detectors : s.detectors + beyond_stated * lines < 2 ^ 127
  pub offset : All (λ o. nat_abs o + beyond_stated * lines < 2 ^ 127) s.offset

-- lengthened with zeros to at least so many axes
abbrev pub padded : ℕ → List ℤ → List ℤ
padded axes offset = offset ++ replicate (axes - length offset) (pos 0)
