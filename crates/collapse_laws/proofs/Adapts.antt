-- A legal collapse keeps all.
use Rattle.collapse_laws.specs.Collapses.{LegalCollapseAdapts}
use Rattle.collapse_laws.proofs.Collapses.{legal_collapse_keeps_mesh}
use Rattle.collapse_marks.proofs.Legal.{legal_collapse_keeps_classification}

pub legal_collapse_adapts : LegalCollapseAdapts
legal_collapse_adapts field mesh a v worst sound distinct legal =
    let kept = legal_collapse_keeps_mesh field mesh a v worst sound legal in
    record { sound = kept.0; cover = kept.1; classification = legal_collapse_keeps_classification field mesh a v worst sound distinct legal }
