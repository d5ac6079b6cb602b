-- Examples of how calls end, both ways.
use Rattle.std.specs.Prelude.{◌≡◌, ℕ, true, false, List, [], ◌∷◌, Some, None, Ok, Err, Option, Result}
use Rattle.answer.specs.declared.Operation.{Operation}
use Rattle.answer.specs.declared.Operation.TheVariants.{Restart, Read as Reads, Write as Writes}
use Rattle.answer.specs.declared.Refusal.{Refusal}
use Rattle.answer.specs.declared.Refusal.TheVariants.{PastEnd, MembersLost, PowerLost, OutOfLimits, NoHead, WrongPhase}
use Rattle.answer.specs.declared.Refused.{Refused}
use Rattle.shelf.specs.Meaning.{Meaning}
use Rattle.sector.specs.declared.TheConstants.{SECTOR}
use Rattle.head.specs.declared.state.Head.{Head}
use Rattle.model.specs.declared.phase.Phase.TheVariants.{Before, Moving, After, Shut}
use Rattle.model.specs.declared.request.Request.TheVariants.{Read, Begin, Keep, Copy, Finish}
use Rattle.model.specs.Answers.{CreateEnded, Ended, OpenEnded}
use Rattle.model.specs.Handed.{Handed}
use Rattle.model.specs.Handed.Handed.{Nothing, Buffer, Distance, Row, Counts}
use Rattle.model.specs.Effects.{verdict_of}
use Rattle.model.specs.Knowing.{Volume, volume}
use Rattle.model.specs.Verdicts.{read_verdict}
use Rattle.model.specs.Worked.{all, label, mirror, mirror_label, right, example_shelf, stripe, volume_of}
use Rattle.model.specs.WorkedSteps.{resting, walking_volume}
use Rattle.model.specs.WorkedCalls.{begun, first, kept_one, finished, settled_one, under, whole}

-- a refusal that names no operation
abbrev pub plain : {A : Type 0} → Refusal → Result A Refused
plain why = Err (record { refusal = why; fault = None })

-- one met at an operation on member 0
abbrev pub met_at : {A : Type 0} → Refusal → Operation → Option ℕ → Result A Refused
met_at why operation row = Err (record { refusal = why; fault = Some (record { operation = operation; member = 0; sector = 4; row = row }) })

abbrev pub none_out : Unit {0} → Handed
none_out x = Nothing

-- a shelf that went dark, and one that has lost both members
abbrev pub dark : Meaning
dark = example_shelf false all right

abbrev pub bare : Meaning
bare = example_shelf true (λ k. false) right

-- a read of sector i of the resting mirrors that leaves all as it is but for the shelf, and answers these bytes
abbrev pub read_ends : ℕ → Meaning → Result (List ℕ) Refused → Type 0
read_ends i b r = Ended (read_verdict resting whole i SECTOR) (b ≡ whole) (λ x. Buffer x) (Read i) (label 1) resting first whole resting first b r

-- a keep of the first row that goes on with this head
abbrev pub keep_ends : Volume → Head → Meaning → Result Unit Refused → Type 0
keep_ends u k b r = Ended (verdict_of Keep (walking_volume 0) (label 1) whole) (b ≡ whole) none_out Keep (label 1) (walking_volume 0) begun whole u k b r

-- a begin that answers this distance
abbrev pub begin_ends : ℕ → Type 0
begin_ends n = Ended (verdict_of Begin resting (label 1) whole) (whole ≡ whole) (λ x. Distance x) Begin (label 1) resting first whole (walking_volume 0) begun (under begun) (Ok n)

-- a copy that hands out a grant of this row
abbrev pub copy_ends : ℕ → Type 0
copy_ends row = Ended (verdict_of Copy (walking_volume 1) (label 1) whole) (whole ≡ whole) (λ x. Row x) Copy (label 1) (walking_volume 1) kept_one whole (volume_of Moving 0 1 (Some 0) 3) kept_one whole (Ok row)

-- a finish that counts so many rows settled and kept
abbrev pub finish_ends : (rows kept : ℕ) → Type 0
finish_ends rows kept =
    Ended {A = Handed} (verdict_of Finish (volume_of Moving 1 1 None 4) (label 1) whole) (whole ≡ whole) (λ x. x) Finish (label 1) (volume_of Moving 1 1 None 4) settled_one whole
    (record { crew = record { phase = After; source = mirror; target = stripe }; number = 5; size = 2; backup = 1; settled = 0; kept = 0; hand = None }) finished whole (Ok (Counts rows kept))

pub record AnswerExamples : Type 0 where
  pub read : read_ends 1 whole (Ok (8 ∷ []))
  pub past : read_ends 2 whole (plain PastEnd)
  pub went_dark : read_ends 1 dark (met_at PowerLost Reads None)
  pub bereft : read_ends 1 bare (met_at MembersLost Reads None)
  -- Another content; a refusal that is not the verdict's; a call that its verdict refuses and that is done; one that is done although power went; and refusals
  -- without cause, of another call, of a sector that no member has, or of another row.
  pub other_content : read_ends 1 whole (Ok (5 ∷ [])) → ⊥
  pub done_dark : read_ends 1 dark (Ok (8 ∷ [])) → ⊥
  pub not_past : read_ends 1 whole (plain PastEnd) → ⊥
  pub done_past : read_ends 2 whole (Ok (8 ∷ [])) → ⊥
  pub without_cause : read_ends 1 whole (met_at MembersLost Reads None) → ⊥
  pub lit : read_ends 1 whole (met_at PowerLost Reads None) → ⊥
  pub writing : read_ends 1 dark (met_at PowerLost Writes None) → ⊥
  pub no_operation : read_ends 1 dark (plain PowerLost) → ⊥
  pub no_sector : read_ends 1 dark (Err (record { refusal = PowerLost; fault = Some (record { operation = Reads; member = 0; sector = 6; row = None }) })) → ⊥
  pub keep_done : keep_ends (walking_volume 1) kept_one whole (Ok tt)
  pub keep_met : keep_ends (walking_volume 0) begun dark (met_at PowerLost Writes (Some 0))
  pub keep_without_row : keep_ends (walking_volume 0) begun dark (met_at PowerLost Writes None) → ⊥
  pub not_counted : keep_ends (walking_volume 0) kept_one whole (Ok tt) → ⊥
  pub begin_done : begin_ends 1
  pub other_distance : begin_ends 2 → ⊥
  pub granted : copy_ends 0
  pub other_grant : copy_ends 1 → ⊥
  pub finish_done : finish_ends 1 1
  pub other_count : finish_ends 2 1 → ⊥

pub record MakingAnswers : Type 0 where
  pub created : CreateEnded (whole ≡ whole) mirror_label mirror stripe 2 1 whole (volume Before mirror stripe first None) first whole (Ok tt)
  pub no_slots : CreateEnded (whole ≡ whole) mirror_label mirror stripe 2 0 whole (volume (Shut WrongPhase) mirror stripe first None) first whole (plain OutOfLimits)
  pub create_met : CreateEnded (whole ≡ whole) mirror_label mirror stripe 2 1 whole (volume (Shut PowerLost) mirror stripe first None) first dark (met_at PowerLost Writes None)
  -- one that reads, one that is done although the power went, and a volume that is not shut
  pub create_reads : CreateEnded (whole ≡ whole) mirror_label mirror stripe 2 1 whole (volume (Shut PowerLost) mirror stripe first None) first dark (met_at PowerLost Reads None) → ⊥
  pub create_dark : CreateEnded (whole ≡ whole) mirror_label mirror stripe 2 1 whole (volume Before mirror stripe first None) first dark (Ok tt) → ⊥
  pub not_shut : CreateEnded (whole ≡ whole) mirror_label mirror stripe 2 0 whole (volume Before mirror stripe first None) first whole (plain OutOfLimits) → ⊥
  pub no_head : OpenEnded mirror_label (label 1) mirror stripe bare (volume (Shut WrongPhase) mirror stripe first None) first bare (plain NoHead)
  pub opened : OpenEnded mirror_label (label 1) mirror stripe (under first) (volume Before mirror stripe first None) first (under first) (Ok tt)
  -- one that was met at a restart after the search, and one without a cause
  pub open_restarts : OpenEnded mirror_label (label 1) mirror stripe (under first) (volume (Shut PowerLost) mirror stripe first None) first dark (met_at PowerLost Restart None) → ⊥
  pub open_without_cause : OpenEnded mirror_label (label 1) mirror stripe whole (volume (Shut WrongPhase) mirror stripe first None) first whole (met_at MembersLost Reads None) → ⊥
