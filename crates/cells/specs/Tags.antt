-- The tag of a type.
use Rattle.std.specs.Prelude.{◌≡◌, ◌≢◌, ℕ, Result, MatchResult}
use Rattle.cells.specs.declared.tags.Tag.{Tag}
use Rattle.cells.specs.declared.tags.Tag.TheVariants.{Nat, Int, Bitv, Bool, Addr, Pc, Subr}
use Rattle.cells.specs.declared.tags.UnknownTag.{UnknownTag}

abbrev pub tag_of : Tag → ℕ
tag_of Nat = 1
tag_of Int = 2
tag_of Bitv = 3
tag_of Bool = 4
tag_of Addr = 5
tag_of Pc = 6
tag_of Subr = 7

-- the type with this tag, or an error for a tag that no type has: 0 and 8 to 255
abbrev pub Decodes : ℕ → Result Tag UnknownTag → Type 0
Decodes tag r = MatchResult r (λ t. tag_of t ≡ tag) (λ e. (e.0 ≡ tag) × ((t : Tag) → tag_of t ≢ tag))
