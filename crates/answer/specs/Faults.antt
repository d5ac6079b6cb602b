-- A fault with the row that its call was about.
use Rattle.std.specs.Prelude.{ℕ, Some}
use Rattle.std.specs.Option.{option_map}
use Rattle.answer.specs.declared.Fault.{Fault}
use Rattle.answer.specs.declared.Refused.{Refused}

abbrev pub fault_in_row : ℕ → Fault → Fault
fault_in_row row f = record { operation = f.operation; member = f.member; sector = f.sector; row = Some row }

abbrev pub in_row : Refused → ℕ → Refused
in_row e row = record { refusal = e.refusal; fault = option_map (fault_in_row row) e.fault }
