-- How the code goes from label to label for the least. No public contract names these.
use Rattle.std.specs.Prelude.{ℕ, Option, Some, None, min}

-- the lesser of two labels, each of which may be wanting
abbrev pub lesser : Option ℕ → Option ℕ → Option ℕ
lesser None n = n
lesser (Some m) None = Some m
lesser (Some m) (Some n) = Some (min m n)
