-- A volume that is laid out: zeros, and then the first head.
use Rattle.std.proofs.Common.{◌≡◌, ℕ, None, Ok, Err, Option, Result, inr, refl, subst}
use Rattle.answer.specs.declared.Fault.{Fault}
use Rattle.answer.specs.declared.Refusal.{Refusal}
use Rattle.answer.specs.declared.Refused.{Refused}
use Rattle.layout.specs.Geometry.{Geometry}
use Rattle.layout.specs.declared.label.Label.{Label}
use Rattle.head.specs.Heads.{Fits}
use Rattle.head.specs.declared.state.Head.{Head}
use Rattle.shelf.specs.Meaning.{Meaning}
use Rattle.model.specs.Answers.{CreateMet, InCall}
use Rattle.model.specs.Crew.{crew}
use Rattle.model.specs.Effects.{First}
use Rattle.model.specs.Ends.{Met, Stage}
use Rattle.model.specs.Faults.{OnHeads}
use Rattle.model.specs.Images.{created_over, headed}
use Rattle.model.specs.Steps.{Passed, Step}
use Rattle.model.specs.declared.phase.Phase.TheVariants.{Before}
use Rattle.model.specs.declared.request.Request.TheVariants.{Begin}
use Rattle.stage.specs.Endings.{OnMember, only_writes}
use Rattle.stage.proofs.Endings.{member_as}
use Rattle.stage.proofs.Loops.{goes_then}
use Rattle.volume.specs.declared.Volume.{Volume}
use Rattle.volume.specs.Volumes.{LaidOut}
use Rattle.volume.proofs.Ending.{heads_on_member}
use Rattle.volume.proofs.Looking.{in_call, met_as, operates_writes}
use Rattle.volume.proofs.Writing.{met_later}

-- before a move the source alone is in force
source_alone : (s t : Geometry) (f : Step) (a b : Meaning) → Passed (crew Before s t) f a b → Passed (crew Before s s) f a b
source_alone s t f a b p =
    record { may = p.may; goes = record { on = p.goes.on; enough = p.goes.enough }; current = p.current; durable = p.durable }

-- what only writes is an operation of a create, as of begin
of_create : (a : Meaning) (f : Fault) → OnMember only_writes a f → InCall Begin None a f
of_create a f n = in_call Begin a f (member_as (operates_writes Begin refl refl) a f n)

create_met : (verdict : Option Refusal) (s t : Geometry) (a b : Meaning) (e : Refused) → verdict ≡ None
    → Met (crew Before s t) (OnMember only_writes a) b e → CreateMet verdict s t a b e
create_met verdict s t a b e none met = record { by = none; met = met_as (OnMember only_writes a) (InCall Begin None a) (of_create a) e met }

-- the volume with its first head, on another state of its shelf
abbrev pub founded_on : {S L : Type 0} → Volume S L → Head → S → Volume S L
founded_on v head shelf = record { shelf = shelf; array = record { source = v.array.source; target = v.array.target; phase = Before; head = head }; hand = v.hand }

-- cleared, and the first head was spread, or met
pub laid_out : {S L : Type 0} (mean : S → Meaning) (place : L → Geometry) (name : L → Label) (verdict : Option Refusal) (size backup : ℕ) (v : Volume S L)
    (k : Head) (between shelf : S) → verdict ≡ None → First (name v.array.source) size backup k → Fits k
    → Passed (crew Before (place v.array.source) (place v.array.target)) (created_over (place v.array.source) k.backup) (mean v.shelf) (mean between) → (r : Result Unit Refused)
    → Stage (crew Before (place v.array.source) (place v.array.target)) (λ n s x. x ≡ headed k (mean between).current n s) (OnHeads (mean between)) (mean between) (mean shelf)
    (λ u. Passed (crew Before (place v.array.source) (place v.array.target)) (headed k) (mean between) (mean shelf)) r
    → LaidOut mean place name verdict size backup v (founded_on v k shelf) r
laid_out mean place name verdict size backup v k between shelf none first fits cleared (Ok u) c =
    let s = place v.array.source in
    let t = place v.array.target in
    let zeroed = subst (λ n. Passed (crew Before s t) (created_over s n) (mean v.shelf) (mean between)) first.backup cleared in (
      none,
      record { goes = goes_then cleared.goes c.1; first = first; phase = refl },
      record {
        mid = mean between;
        cleared = source_alone s t (created_over s backup) (mean v.shelf) (mean between) zeroed;
        first = first;
        fits = fits;
        stands = source_alone s t (headed k) (mean between) (mean shelf) c.2;
      },
    )
laid_out mean place name verdict size backup v k between shelf none first fits cleared (Err e) c =
    let s = place v.array.source in
    let t = place v.array.target in
    let zeroed = subst (λ n. Passed (crew Before s t) (created_over s n) (mean v.shelf) (mean between)) first.backup cleared in
    inr (
      create_met verdict s t (mean v.shelf) (mean shelf) e none (met_later cleared.may (OnHeads (mean between)) (heads_on_member refl refl (mean between)) e c.1),
      inr (record {
        mid = mean between;
        cleared = source_alone s t (created_over s backup) (mean v.shelf) (mean between) zeroed;
        head = k;
        first = first;
        fits = fits;
        torn = c.0;
      }),
    )
