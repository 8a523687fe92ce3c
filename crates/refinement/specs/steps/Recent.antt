-- Sizes at places that were asked for lately. No public contract names these.
use Rattle.std.specs.Prelude.{◌≡◌, List, length}
use Rattle.std.specs.List.{All}
use Rattle.size_marks.specs.Field.{Field, size_at}
use Rattle.refinement.specs.declared.recent.Recent.{Recent}

-- that each of so many entries has the size of its place
pub record AreRecent (field : Field) (entries : List Recent) : Type 0 where
  pub count : length entries ≡ 4096
  pub sizes : All (λ entry. entry.sized ≡ record { place = entry.place; size = size_at field entry.place }) entries
