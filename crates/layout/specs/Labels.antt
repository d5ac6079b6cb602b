-- Labels that say what a layout is.
use Rattle.std.specs.Prelude.{ℕ, ◌/◌, ◌%◌, Bool, ◌&&◌, ◌||◌, ◌==◌, nat_le}
use Rattle.layout.specs.Geometry.{Geometry}
use Rattle.layout.specs.Kinds.{kind_number}
use Rattle.layout.specs.declared.kind.Kind.TheVariants.{Striped, LeftSymmetric, Near, Far}
use Rattle.layout.specs.declared.kind.Kind.{Kind}
use Rattle.layout.specs.declared.label.Label.{Label}
use Rattle.layout.specs.declared.label.TheConstants.{FIRST_CUSTOM_KIND}
use Rattle.sector.specs.declared.limits.TheConstants.{FEWEST_MEMBERS, MOST_MEMBERS}
use Rattle.layout.specs.declared.TheConstants.{FEWEST_COPIES, FEWEST_WITH_PARITY, MOST_CHUNK, MOST_COPIES, MOST_DEPTH}

-- the label of a stock layout of kind k: f copies on n members, with chunks of c sectors and d used sectors on each
abbrev pub stock_label : Kind → ℕ → ℕ → ℕ → ℕ → Label
stock_label k n f c d = record { kind = kind_number k; members = n; copies = f; reserved = 0; chunk = c; depth = d }

-- n members with d used sectors each, in whole chunks of c
abbrev pub whole_chunks : (n c d : ℕ) → Bool
whole_chunks n c d =
    ((nat_le FEWEST_MEMBERS n && nat_le n MOST_MEMBERS) && (nat_le 1 c && nat_le c MOST_CHUNK)) && ((nat_le 1 d && nat_le d MOST_DEPTH) && (d % c == 0))

-- f copies, each on a member of its own
abbrev pub copies_apart : (n f : ℕ) → Bool
copies_apart n f = (nat_le FEWEST_COPIES f && nat_le f MOST_COPIES) && nat_le f n

-- what a kind asks of its label besides
abbrev pub kind_asks : Kind → Label → Bool
kind_asks Striped l = l.copies == 1
kind_asks LeftSymmetric l = l.copies == 1 && nat_le FEWEST_WITH_PARITY l.members
kind_asks Near l = copies_apart l.members l.copies
kind_asks Far l = copies_apart l.members l.copies && nat_le l.copies (l.depth / l.chunk)

-- the label's kind is k, and it has what k asks
abbrev pub suits : Kind → Label → Bool
suits k l = l.kind == kind_number k && kind_asks k l

-- the label of a stock kind, within the limits of that kind
abbrev pub stock_in_limits : Label → Bool
stock_in_limits l =
    (l.reserved == 0 && whole_chunks l.members l.chunk l.depth) && ((suits Striped l || suits LeftSymmetric l) || (suits Near l || suits Far l))

-- a customer's own label with the reserved byte zero, or that of a stock kind within its limits
abbrev pub label_in_limits : Label → Bool
label_in_limits l = (l.reserved == 0 && nat_le FIRST_CUSTOM_KIND l.kind) || stock_in_limits l

-- The label has the layout's own members, copies and depth. It stays folded, so that the verdicts above are short.
unfoldable pub true_label : Label → Geometry → Bool
true_label l g = (label_in_limits l && l.members == g.members) && (l.copies == g.copies && l.depth == g.depth)
