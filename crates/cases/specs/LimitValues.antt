-- The limits, and where the head, the log and the slots lie, by their numbers: clauses and definitions have them by their names.
use Rattle.std.specs.Prelude.{◌≡◌}
use Rattle.sector.specs.declared.TheConstants.{SECTOR}
use Rattle.sector.specs.declared.limits.TheConstants.{FEWEST_MEMBERS, MOST_MEMBERS}
use Rattle.layout.specs.declared.TheConstants.{FEWEST_COPIES, FEWEST_WITH_PARITY, MOST_CAPACITY, MOST_CHUNK, MOST_COPIES, MOST_DEPTH}
use Rattle.layout.specs.declared.label.TheConstants.{FIRST_CUSTOM_KIND, LABEL}
use Rattle.shelf.specs.declared.TheConstants.{MOST_SECTORS}
use Rattle.shelf.specs.declared.controls.TheConstants.{NEVER}
use Rattle.head.specs.declared.TheConstants.{HEAD_AT, LOGGED_DATUM_AT, LOGGED_PARITY_AT, MOST_BACKUP, MOST_NUMBER, SLOTS_AT}

pub record LimitValues : Type 0 where
  -- bytes
  pub sector : SECTOR ≡ 512
  pub label : LABEL ≡ 16
  -- members of a layout and of a shelf, and the sectors of a shelf's member
  pub members : (FEWEST_MEMBERS ≡ 2) × (MOST_MEMBERS ≡ 16)
  pub sectors : MOST_SECTORS ≡ 33554432
  -- layouts: sectors of a member and of all, of a chunk, members with parity, copies, the first kind of a customer's own
  pub depth : MOST_DEPTH ≡ 16777216
  pub capacity : MOST_CAPACITY ≡ 268435456
  pub chunk : MOST_CHUNK ≡ 2048
  pub with_parity : FEWEST_WITH_PARITY ≡ 3
  pub copies : (FEWEST_COPIES ≡ 2) × (MOST_COPIES ≡ 4)
  pub custom : FIRST_CUSTOM_KIND ≡ 128
  -- a volume: slots, checkpoint numbers, and what lies in the first sectors of each member
  pub slots : MOST_BACKUP ≡ 4096
  pub numbers : MOST_NUMBER ≡ 9223372036854775807
  pub head_at : HEAD_AT ≡ 0
  pub log_at : (LOGGED_DATUM_AT ≡ 1) × (LOGGED_PARITY_AT ≡ 2)
  pub slots_at : SLOTS_AT ≡ 3
  -- the fuse that never goes
  pub never : NEVER ≡ 4294967295
