-- What is known of an array, by what its layouts place where.
use Rattle.std.specs.Prelude.{ℕ, Option}
use Rattle.layout.specs.Geometry.{Geometry}
use Rattle.model.specs.Crew.{Crew, crew}
use Rattle.model.specs.Knowing.{Volume, volume}
use Rattle.stage.specs.declared.array.Array.{Array}

-- its layouts, and which of them are in force
abbrev pub crew_of : {L : Type 0} → (L → Geometry) → Array L → Crew
crew_of place a = crew a.phase (place a.source) (place a.target)

-- the volume that is laid on it, with a row in hand
abbrev pub volume_on : {L : Type 0} → (L → Geometry) → Array L → Option ℕ → Volume
volume_on place a hand = volume a.phase (place a.source) (place a.target) a.head hand
