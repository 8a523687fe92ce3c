-- Steps of the code and no promise: what the lines of a front of a file say.
use Rattle.std.specs.Prelude.{ℕ, Bool, false, ℤ, List, []}
use Rattle.ma_geom.specs.Coordinates.{Coordinates}
use Rattle.msh_read.specs.GroupNames.{GroupName}
use Rattle.msh_read.specs.declared.raw.RawMark.{RawMark}
use Rattle.msh_read.specs.declared.raw.RawTet.{RawTet}
use Rattle.msh_read.specs.declared.stand.Stand.{Stand}
use Rattle.msh_read.specs.declared.stand.Stand.TheVariants.{Outside}

pub record Front : Type 0 where
  -- where the next line stands
  pub stand : Stand
  -- the name of the section that was begun last
  pub header : List ℕ
  -- whether these sections were begun
  pub has_format : Bool
  pub has_names : Bool
  pub has_nodes : Bool
  pub has_elements : Bool
  -- the nodes' numbers and their places, and what else was read, in the order of the file
  pub numbers : List ℤ
  pub nodes : List Coordinates
  pub tets : List RawTet
  pub marks : List RawMark
  pub names : List GroupName

-- what no line says
abbrev pub nothing_read : Front
nothing_read = record {
  stand = Outside;
  header = [];
  has_format = false;
  has_names = false;
  has_nodes = false;
  has_elements = false;
  numbers = [];
  nodes = [];
  tets = [];
  marks = [];
  names = [];
}
