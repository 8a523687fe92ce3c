use Rattle.std.proofs.Common.{◌≡◌, ◌++◌, true, take}
use Rattle.std.specs.List.{flat_map, list_all}
use Rattle.letters.specs.Fields.{place}
use Rattle.letters.proofs.spelling.put_places.Given as goal

abbrev pub invariant-loop-p : goal.invariant-loop-p
invariant-loop-p l = record {
  text : l.out.items ≡ l.fn.out.items ++ flat_map place.spelling (take l.p-index l.places);
  fits : list_all place.fits (take l.p-index l.places) ≡ true;
}
