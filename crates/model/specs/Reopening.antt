-- What an open makes of its shelf, done or met: what is found, the parts that follow, and the volume that is opened.
use Rattle.std.specs.Prelude.{◌≡◌, ℕ, List, [], ◌∷◌, Some, None, Option}
use Rattle.head.specs.declared.TheConstants.{LOGGED_DATUM_AT, LOGGED_PARITY_AT}
use Rattle.layout.specs.Geometry.{Geometry}
use Rattle.layout.specs.declared.label.Label.{Label}
use Rattle.shelf.specs.Meaning.{Meaning}
use Rattle.head.specs.Checkpoints.{Next}
use Rattle.head.specs.declared.state.Head.{Head}
use Rattle.model.specs.Crew.{Crew, crew}
use Rattle.model.specs.Images.{applied, headed}
use Rattle.model.specs.Knowing.{Volume, phase_by, volume}
use Rattle.model.specs.Opening.{Searched, head_verdict}
use Rattle.model.specs.Reading.{common, home_by}
use Rattle.model.specs.Steps.{Part, SeenBy, Through, TornIn}
use Rattle.model.specs.Steps.Part.{Checkpoint, Plain}

-- the volume under a head, with no row in hand
abbrev pub opened_volume : (source target : Geometry) → Head → Volume
opened_volume s t h = volume (phase_by h.progress) s t h None

abbrev pub opened_crew : (source target : Geometry) → Head → Crew
opened_crew s t h = crew (phase_by h.progress) s t

-- the last head after an open that found h: h itself, or the one that disarms it
abbrev pub Disarmed : Option ℕ → Head → Head → Type 0
Disarmed None h k = k ≡ h
Disarmed (Some i) h k = Next h h.source h.progress None k

-- An armed head is spread, what its log holds goes to the home of the logged sector, and the head is disarmed.
pub record RedoParts (s t : Geometry) (i : ℕ) (h : Head) (a b : Meaning) (ps : List Part) : Type 0 where
  pub datum : List ℕ
  pub parity : List ℕ
  pub logged_datum : SeenBy (opened_crew s t h) a b (λ m. common m LOGGED_DATUM_AT) datum
  pub logged_parity : SeenBy (opened_crew s t h) a b (λ m. common m LOGGED_PARITY_AT) parity
  pub parts : ps ≡ Plain (headed h) ∷ Plain (λ f. applied (home_by (opened_volume s t h) i) s t h.backup i datum parity f) ∷ Checkpoint h.source h.progress None ∷ []

-- the parts of an open, in their order
abbrev pub OpenParts : Option ℕ → (s t : Geometry) → Head → (a b : Meaning) → List Part → Type 0
OpenParts None s t h a b ps = ps ≡ Plain (headed h) ∷ []
OpenParts (Some i) s t h a b ps = RedoParts s t i h a b ps

-- The shelf was restarted and searched; h leads on what was found, and its verdict, told on that, is none.
pub record TakenUp (sl tl : Label) (s t : Geometry) (a mid : Meaning) (h : Head) : Type 0 where
  pub found : Searched a mid (Some h)
  pub verdict : head_verdict h mid sl tl s t ≡ None

-- done: the parts follow from there
pub record OpensTo (sl tl : Label) (s t : Geometry) (a b : Meaning) (h k : Head) : Type 0 where
  pub mid : Meaning
  pub taken : TakenUp sl tl s t a mid h
  pub list : List Part
  pub parts : OpenParts h.armed s t h mid b list
  pub through : Through (opened_crew s t h) list h mid k b

-- the same, torn in one of them
pub record OpenTorn (sl tl : Label) (s t : Geometry) (a b : Meaning) (h : Head) : Type 0 where
  pub mid : Meaning
  pub taken : TakenUp sl tl s t a mid h
  pub list : List Part
  pub parts : OpenParts h.armed s t h mid b list
  pub torn : TornIn (opened_crew s t h) list h mid b
