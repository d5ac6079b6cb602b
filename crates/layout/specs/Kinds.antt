-- The stock kinds and their numbers.
use Rattle.std.specs.Prelude.{◌≡◌, ℕ, ◌≢◌, Result, MatchResult}
use Rattle.layout.specs.declared.kind.Kind.{Kind}
use Rattle.layout.specs.declared.kind.Kind.TheVariants.{Striped, LeftSymmetric, Near, Far}
use Rattle.layout.specs.declared.kind.UnknownKind.{UnknownKind}

abbrev pub kind_number : Kind → ℕ
kind_number Striped = 1
kind_number LeftSymmetric = 2
kind_number Near = 3
kind_number Far = 4

-- the kind that a number names, or the number, where no kind has it
abbrev pub KindOf : ℕ → Result Kind UnknownKind → Type 0
KindOf n r = MatchResult r (λ kind. kind_number kind ≡ n) (λ e. (e.0 ≡ n) × ((kind : Kind) → kind_number kind ≢ n))
