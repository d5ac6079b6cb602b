-- A volume that was created or opened is housed.
use Rattle.std.proofs.Common.{◌≡◌, ℕ, ◌+◌, true, nat_le, None, Ok, Err, OnOk, Result, refl, ap, ◌∙◌}
use Rattle.std.proofs.lemmas.Bool.{leb-true}
use Rattle.layout.specs.Geometry.{Geometry}
use Rattle.head.specs.Heads.{kept_rows, settled_rows}
use Rattle.head.specs.declared.state.Head.{Head}
use Rattle.head.specs.declared.state.Progress.{Progress}
use Rattle.head.specs.declared.state.Progress.TheVariants.{Idle, Moving}
use Rattle.shelf.specs.Meaning.{Meaning}
use Rattle.model.specs.Crew.{crew}
use Rattle.model.specs.Knowing.{Volume as Known, phase_by}
use Rattle.model.specs.declared.phase.Phase.{Phase}
use Rattle.answer.specs.declared.Refused.{Refused}
use Rattle.model.specs.Opening.{head_fits, logged_fits, progress_fits}
use Rattle.model.specs.Reopening.{opened_volume}
use Rattle.model.specs.Verdicts.{fits, shelf_in_limits}
use Rattle.volume.specs.declared.Volume.{Volume}
use Rattle.volume.specs.Volumes.{Alike, HasRoom, Housed, OnlyShelf, known}
use Rattle.volume.proofs.Housing.{both_left, both_right, housed_as}
use Rattle.volume.proofs.Writing.{same_crew}

-- a volume that is opened with such a progress
abbrev found_with : Geometry → Geometry → Progress → (number size backup : ℕ) → Known
found_with s t progress number size backup =
    record { crew = crew (phase_by progress) s t; number = number; size = size; backup = backup; settled = settled_rows progress; kept = kept_rows progress; hand = None }

pub fits_room : (v : Known) (a : Meaning) (g : Geometry) → fits a g v.backup v.size ≡ true → HasRoom v a g
fits_room v a g e =
    let rest = both_right (shelf_in_limits a) _ e in
    let deeper = both_right (nat_le g.members a.members) _ rest in
    record {
      room = record { wide = leb-true _ _ (both_left (nat_le g.members a.members) _ rest); deep = leb-true _ _ (both_left (nat_le (3 + v.backup + g.depth) a.sectors) _ deeper) };
      holds = leb-true _ _ (both_right (nat_le (3 + v.backup + g.depth) a.sectors) _ deeper);
    }

fits_found : (progress : Progress) (a : Meaning) (s t : Geometry) (number size backup : ℕ) → fits a s backup size ≡ true → progress_fits progress a s t size backup ≡ true
    → Housed (found_with s t progress number size backup) a
fits_found Idle a s t number size backup source rest = (fits_room (found_with s t Idle number size backup) a s source, refl)
fits_found (Moving label p q) a s t number size backup source rest = (
  fits_room (found_with s t (Moving label p q) number size backup) a s source,
  fits_room (found_with s t (Moving label p q) number size backup) a t (both_left (fits a t backup size) _ rest),
  leb-true _ _ (both_left (nat_le p t.rows) _ (both_right (fits a t backup size) _ rest)),
)

-- a head that fits the shelf and the layouts
pub fits_housed : (h : Head) (a : Meaning) (s t : Geometry) → head_fits h a s t ≡ true → Housed (opened_volume s t h) a
fits_housed h a s t e =
    let rest = both_right (logged_fits h.armed h.size) _ e in
    fits_found h.progress a s t h.number h.size h.backup (both_left (fits a s h.backup h.size) _ rest) (both_right (fits a s h.backup h.size) _ rest)

pub alike_housed : {S L : Type 0} (mean : S → Meaning) (place : L → Geometry) (v w : Volume S L) → Alike mean v w → Housed (known place v) (mean v.shelf) → Housed (known place w) (mean w.shelf)
alike_housed mean place v w a h =
    housed_as (known place v) (known place w) (mean v.shelf) (mean w.shelf) (same_crew place v.array w.array a.source a.target a.phase) a.size a.backup
    (ap settled_rows a.progress) a.hand a.members a.sectors h

-- the volume under a head, in a phase
abbrev pub headed_by : {S L : Type 0} → Volume S L → Phase → Head → Volume S L
headed_by m phase h = record { shelf = m.shelf; array = record { source = m.array.source; target = m.array.target; phase = phase; head = h }; hand = m.hand }

opened_housed : {S L : Type 0} (mean : S → Meaning) (place : L → Geometry) (m w : Volume S L) (h : Head) (phase : Phase) → phase ≡ phase_by h.progress → m.hand ≡ None
    → head_fits h (mean m.shelf) (place m.array.source) (place m.array.target) ≡ true → Alike mean (headed_by m phase h) w → Housed (known place w) (mean w.shelf)
opened_housed mean place m w h phase is hand fits a =
    let s = place m.array.source in
    let t = place m.array.target in
    alike_housed mean place (headed_by m phase h) w a
    (housed_as (opened_volume s t h) (known place (headed_by m phase h)) (mean m.shelf) (mean m.shelf) (ap (λ p. crew p s t) is) refl refl refl hand refl refl
    (fits_housed h (mean m.shelf) s t fits))

pub opens_housed : {S L : Type 0} (mean : S → Meaning) (place : L → Geometry) (v m w : Volume S L) (h : Head) (phase : Phase) → phase ≡ phase_by h.progress → OnlyShelf v m → v.hand ≡ None
    → head_fits h (mean m.shelf) (place m.array.source) (place m.array.target) ≡ true → Alike mean (headed_by m phase h) w → (r : Result Unit Refused)
    → OnOk r (Housed (known place w) (mean w.shelf))
opens_housed mean place v m w h phase is only hand fits a (Ok x) = opened_housed mean place m w h phase is (only.hand ∙ hand) fits a
opens_housed mean place v m w h phase is only hand fits a (Err e) = tt
