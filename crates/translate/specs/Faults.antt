-- The number of each refusal, and the place that it tells.
use Rattle.std.specs.Prelude.{ℕ}
use Rattle.translate.specs.declared.fault.TranslateFault.{TranslateFault}
use Rattle.translate.specs.declared.fault.TranslateFault.TheVariants.{TooShort}

abbrev pub told : TranslateFault → ℕ × ℕ
told (TooShort words) = (30, words)
