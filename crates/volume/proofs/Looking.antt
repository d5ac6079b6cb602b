-- Operations of a call, and what a look gives it.
use Rattle.std.proofs.Common.{◌≡◌, ℕ, true, false, List, Some, None, Ok, Err, refl, ◌∙◌}
use Rattle.std.proofs.lemmas.Bool.{both_ways}
use Rattle.answer.specs.Faults.{fault_in_row}
use Rattle.answer.specs.declared.Fault.{Fault}
use Rattle.answer.specs.declared.Operation.{Operation}
use Rattle.answer.specs.declared.Operation.TheVariants.{Flush, Read as Reads, Restart, Write as Writes}
use Rattle.answer.specs.declared.Refused.{Refused}
use Rattle.layout.specs.Geometry.{Geometry}
use Rattle.shelf.specs.Meaning.{Meaning}
use Rattle.model.specs.Answers.{InCall, operates}
use Rattle.model.specs.Crew.{Crew, enough}
use Rattle.model.specs.Ends.{Met}
use Rattle.model.specs.Knowing.{Volume as Known}
use Rattle.model.specs.Reading.{content_of, home_by}
use Rattle.model.specs.Steps.{SeenBy}
use Rattle.model.specs.declared.request.Request.{Request}
use Rattle.model.specs.declared.request.Request.TheVariants.{Read}
use Rattle.stage.specs.Endings.{OnMember, only_writes, reads_and_writes}
use Rattle.stage.specs.Looks.{OnHome, ShowsSector}
use Rattle.overlap.specs.declared.walk.Home.{Home}
use Rattle.model.proofs.Seeing.{content_seen, seen}
use Rattle.stage.proofs.Chains.{names_as}
use Rattle.stage.proofs.Endings.{on_home}

-- an operation of a call, on a member that was there
pub in_call : (r : Request) (a : Meaning) (f : Fault) → OnMember (operates r) a f → InCall r None a f
in_call r a f n = record { operation = n.operation; there = n.there; sector = n.sector; row = n.row }

-- the same in a call about a row
pub in_call_of_row : (r : Request) (row : ℕ) (a : Meaning) (f : Fault) → OnMember (operates r) a f → InCall r (Some row) a (fault_in_row row f)
in_call_of_row r row a f n = record { operation = n.operation; there = n.there; sector = n.sector; row = refl }

-- a call that reads, writes and flushes does all that a stage does
pub operates_all : (r : Request) → operates r Reads ≡ true → operates r Writes ≡ true → operates r Flush ≡ true
    → (o : Operation) → reads_and_writes o ≡ true → operates r o ≡ true
operates_all r reads writes flushes Restart e = absurd (both_ways false refl e)
operates_all r reads writes flushes Reads e = reads
operates_all r reads writes flushes Writes e = writes
operates_all r reads writes flushes Flush e = flushes

-- one that writes and flushes does all that a stage does that only writes
pub operates_writes : (r : Request) → operates r Writes ≡ true → operates r Flush ≡ true → (o : Operation) → only_writes o ≡ true → operates r o ≡ true
operates_writes r writes flushes Restart e = absurd (both_ways false refl e)
operates_writes r writes flushes Reads e = absurd (both_ways false refl e)
operates_writes r writes flushes Writes e = writes
operates_writes r writes flushes Flush e = flushes

-- met at an operation that has another name
pub met_as : {w : Crew} {b : Meaning} (F G : Fault → Type 0) → ((f : Fault) → F f → G f) → (e : Refused) → Met w F b e → Met w G b e
met_as F G h e m = record { why = m.why; fault = names_as F G h e.fault m.fault }

pub show_met : (h : Home) (w : Crew) (s t : Geometry) (backup i : ℕ) (a b : Meaning) (e : Refused) → ShowsSector h w s t backup i a b (Err e) → Met w (InCall (Read i) None a) b e
show_met h w s t backup i a b e shows =
    met_as (OnHome Reads backup i a) (InCall (Read i) None a) (λ f n. in_call (Read i) a f (on_home Reads refl backup i a f n)) e shows.1

-- what the look gives was seen
pub show_seen : (u : Known) (i : ℕ) (a b : Meaning) (content buffer : List ℕ) → enough u.crew a ≡ true
    → ShowsSector (home_by u i) u.crew u.crew.source u.crew.target u.backup i a b (Ok content) → buffer ≡ content → SeenBy u.crew a b (λ m. content_of u m i) buffer
show_seen u i a b content buffer here shown is =
    seen u.crew (λ m. content_of u m i) buffer (content_seen u i) here (record { may = shown.0; goes = shown.1 }) (is ∙ shown.2)
