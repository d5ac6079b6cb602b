-- The bytes of a head, and which bytes are a head.
use Rattle.std.specs.Prelude.{◌≡◌, ℕ, ◌+◌, ◌-◌, ◌≤◌, List, [], ◌∷◌, ◌++◌, length, Some, None, Option, slice_index_or}
use Rattle.std.specs.List.{between}
use Rattle.sector.specs.Bytes.{le, from_le}
use Rattle.sector.specs.declared.TheConstants.{SECTOR}
use Rattle.layout.specs.Bytes.{label_bytes, label_from}
use Rattle.layout.specs.declared.label.Label.{Label}
use Rattle.layout.specs.declared.label.TheConstants.{LABEL}
use Rattle.head.specs.Fields.{clear}
use Rattle.head.specs.declared.state.Head.{Head}
use Rattle.head.specs.declared.state.Progress.{Progress}
use Rattle.head.specs.declared.state.Progress.TheVariants.{Idle, Moving}
use Rattle.head.specs.declared.TheConstants.{ARMED_AT, BACKUP_AT, EDITION, EDITION_AT, LOGGED_AT, MOST_BACKUP, MOST_NUMBER, NUMBER_AT, PHASE_AT, SETTLED_AT, SIZE_AT, SOURCE_AT, TAIL_AT, TARGET_AT}

-- the label of no layout: all its bytes are zero
abbrev pub no_label : Label
no_label = record { kind = 0; members = 0; copies = 0; reserved = 0; chunk = 0; depth = 0 }

abbrev pub phase_byte : Progress → ℕ
phase_byte Idle = 0
phase_byte (Moving t p q) = 1

abbrev pub target_label : Progress → Label
target_label Idle = no_label
target_label (Moving t p q) = t

abbrev pub settled_rows : Progress → ℕ
settled_rows Idle = 0
settled_rows (Moving t p q) = p

abbrev pub kept_rows : Progress → ℕ
kept_rows Idle = 0
kept_rows (Moving t p q) = q

abbrev pub armed_byte : Option ℕ → ℕ
armed_byte None = 0
armed_byte (Some i) = 1

abbrev pub logged_number : Option ℕ → ℕ
logged_number None = 0
logged_number (Some i) = i

-- the fields in their order: mark, edition, phase and armed, the number, the labels, the size, the rows, the slots, the logged sector
abbrev pub head_bytes : Head → List ℕ
head_bytes h =
    (0x52 ∷ 0x48 ∷ 1 ∷ phase_byte h.progress ∷ armed_byte h.armed ∷ 0 ∷ 0 ∷ 0 ∷ [])
    ++ le 8 h.number
    ++ label_bytes h.source
    ++ label_bytes (target_label h.progress)
    ++ le 8 h.size
    ++ le 8 (settled_rows h.progress)
    ++ le 8 (kept_rows h.progress)
    ++ le 4 h.backup
    ++ clear 4
    ++ le 8 (logged_number h.armed)
    ++ clear (SECTOR - TAIL_AT)

pub record Marked (bs : List ℕ) : Type 0 where
  pub first : slice_index_or bs 0 0 ≡ 0x52
  pub second : slice_index_or bs 1 0 ≡ 0x48
  pub edition : slice_index_or bs EDITION_AT 0 ≡ EDITION

pub record Flagged (bs : List ℕ) : Type 0 where
  pub phase : slice_index_or bs PHASE_AT 0 ≤ 1
  pub armed : slice_index_or bs ARMED_AT 0 ≤ 1

-- zeros where nothing is said
pub record Gapped (bs : List ℕ) : Type 0 where
  pub start : between (ARMED_AT + 1) NUMBER_AT bs ≡ clear 3
  pub slots : between (BACKUP_AT + 4) LOGGED_AT bs ≡ clear 4
  pub tail : between TAIL_AT SECTOR bs ≡ clear (SECTOR - TAIL_AT)

pub record NumbersInLimits (bs : List ℕ) : Type 0 where
  pub number_least : 1 ≤ from_le (between NUMBER_AT SOURCE_AT bs)
  pub number_most : from_le (between NUMBER_AT SOURCE_AT bs) ≤ MOST_NUMBER
  pub backup_least : 1 ≤ from_le (between BACKUP_AT (BACKUP_AT + 4) bs)
  pub backup_most : from_le (between BACKUP_AT (BACKUP_AT + 4) bs) ≤ MOST_BACKUP

-- an idle head has no target and no rows
pub record IdleBare (bs : List ℕ) : Type 0 where
  pub target : slice_index_or bs PHASE_AT 0 ≡ 0 → between TARGET_AT SIZE_AT bs ≡ clear LABEL
  pub rows : slice_index_or bs PHASE_AT 0 ≡ 0 → between SETTLED_AT BACKUP_AT bs ≡ clear 16

-- an unarmed head has no logged sector
pub record UnarmedBare (bs : List ℕ) : Type 0 where
  pub logged : slice_index_or bs ARMED_AT 0 ≡ 0 → between LOGGED_AT TAIL_AT bs ≡ clear 8

-- which bytes are a head
pub record Accepted (bs : List ℕ) : Type 0 where
  pub long : length bs ≡ SECTOR
  pub marked : Marked bs
  pub flags : Flagged bs
  pub gaps : Gapped bs
  pub ranges : NumbersInLimits bs
  pub idle : IdleBare bs
  pub unarmed : UnarmedBare bs

-- Every number of the head fits its field, so that its bytes keep all of it. It holds of each head that the code has.
pub record Fits (h : Head) : Type 0 where
  pub number : from_le (le 8 h.number) ≡ h.number
  pub source : label_from (label_bytes h.source) ≡ h.source
  pub target : label_from (label_bytes (target_label h.progress)) ≡ target_label h.progress
  pub size : from_le (le 8 h.size) ≡ h.size
  pub settled : from_le (le 8 (settled_rows h.progress)) ≡ settled_rows h.progress
  pub kept : from_le (le 8 (kept_rows h.progress)) ≡ kept_rows h.progress
  pub backup : from_le (le 4 h.backup) ≡ h.backup
  pub logged : from_le (le 8 (logged_number h.armed)) ≡ logged_number h.armed
