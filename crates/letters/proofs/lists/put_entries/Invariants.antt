use Rattle.std.proofs.Common.{◌≡◌, ◌++◌, true, take}
use Rattle.std.specs.List.{flat_map, list_all}
use Rattle.letters.proofs.lists.put_entries.Given as goal

abbrev pub invariant-loop-item : goal.invariant-loop-item
invariant-loop-item g l = record {
  text : l.out.items ≡ l.fn.out.items ++ flat_map g.T.Entry.grammar.spelling (take l.item-index l.items);
  fits : list_all g.T.Entry.grammar.fits (take l.item-index l.items) ≡ true;
}
