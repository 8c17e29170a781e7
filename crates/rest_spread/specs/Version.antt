-- The number that the archive and its callers compare.
use Rattle.std.specs.Prelude.{ℕ}

abbrev pub version : ℕ
version = 4
