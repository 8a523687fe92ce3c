-- A run over parts that is done, all of whose letters arrived, has left what a run without parts leaves.
use Rattle.std.proofs.Common.{◌≡◌, ℕ, ◌<◌, ◌≤◌, List, length, Some, None, refl, sym, ap, subst, ◌∙◌, arith}
use Rattle.std.specs.Prelude.{IfSome, Option, Result, Ok, is_some, map, slice_get}
use Rattle.std.specs.FinMap as files_map
use Rattle.std.specs.Option.{option_map}
use Rattle.std.proofs.lemmas.Bool.{false≢true}
use Rattle.std.proofs.lemmas.Option.{same_Some, slice_get_within}
use Rattle.ma_cells.specs.declared.view.View.{View}
use Rattle.ma_io.specs.Files.{Files}
use Rattle.msh_write.specs.Text.{text_of}
use Rattle.part_core.specs.Parts.{PartState}
use Rattle.part_store.specs.Agreement.{Agree}
use Rattle.part_store.specs.Labelled.{LabelledMesh, view_of}
use Rattle.part_store.specs.Stores.{view_in}
use Rattle.part_store.proofs.Agreeing.{views_agree}
use Rattle.world_run.specs.Rounds.{SeeMesh}
use Rattle.world_run.specs.Views.{seen_at}
use Rattle.meshadapt.specs.Acts.{Ending, IsMeant, Output, files_with, view_output, whole_after}
use Rattle.meshadapt.specs.Headline.{Headline, IsAsByOnePart}
use Rattle.meshadapt.specs.Outcome.{Leaves, LeavesDone, MayEnd, Seen, Stores}
use Rattle.meshadapt.specs.OverParts.{AllArrive}
use Rattle.meshadapt.specs.Printed.{mesh_name}
use Rattle.meshadapt.specs.Verdict.{Handout, Inputs, verdict}
use Rattle.meshadapt.specs.Words.{Job}
use Rattle.meshadapt.specs.declared.status.Status.{Status}
use Rattle.meshadapt.specs.declared.status.Status.TheVariants.{Done, Usage, ReadFault, WriteFault, Refused, TooMany, Memory, LinkFault, BadLetter, Starved}
use Rattle.meshadapt.proofs.Acting.{all-outputs, all_outputs}
use Rattle.meshadapt.proofs.Kept.{rounds_keep_geometry}

ok_is : {A E : Type 0} {x y : A} → ◌≡◌ {A = Result A E} (Ok x) (Ok y) → x ≡ y
ok_is e = cc

-- ---- what is seen
-- a part of which something is seen is one of the parts
seen_within : (parts : List PartState) (p : ℕ) (v : View) → seen_at parts p ≡ Some v → p < length parts
seen_within parts p v seen = of_part (slice_get parts p) refl seen
  where
    of_part : (found : Option PartState) → slice_get parts p ≡ found → option_map (λ (part : PartState). view_in part.standing.holds) found ≡ Some v → p < length parts
    of_part None is seen = absurd (false≢true (ap is_some seen))
    of_part (Some part) is seen = slice_get_within parts p part is

sees_so : (mesh : LabelledMesh) (parts : List PartState) → SeeMesh mesh parts → (p : ℕ) (v : View) → seen_at parts p ≡ Some v → view_of mesh p ≡ v
sees_so mesh parts see p v seen = same_Some (view_of mesh p) v (sym (see p (seen_within parts p v seen)) ∙ seen)

agree_so : (mesh : LabelledMesh) (parts : List PartState) → SeeMesh mesh parts → (p q : ℕ) (v w : View) → seen_at parts p ≡ Some v → seen_at parts q ≡ Some w → Agree v w
agree_so mesh parts see p q v w at_p at_q =
    subst (λ (x : View). Agree x w) (sees_so mesh parts see p v at_p) (subst (λ (x : View). Agree (view_of mesh p) x) (sees_so mesh parts see q w at_q) (views_agree mesh p q))

-- ---- the run
module _ (job : Job) (inputs : Inputs) (handout : Handout) (files : Files) (s t : Seen) (ending : Ending) (ends : MayEnd job inputs (Some handout) job.rounds s.carrier t.carrier ending)
    (stored : Stores (all_outputs job inputs ending) (Some files) t.depot.files) (verdict_is : verdict files job ≡ Ok inputs) (arrive : AllArrive handout.parts s.carrier) where
  meant : IsMeant job inputs handout job.rounds ending
  meant = ends.4 arrive

  itself : (n : ℕ) → n ≤ n
  itself n = omega arith

  pub as_by_one : IsAsByOnePart job inputs handout files s t
  as_by_one = record {
    stored = stored
        ∙ (λ i. Some (files_with (map (view_output job inputs) (meant.views i)) (files_map.insert files (mesh_name job) (text_of (meant.meshes job.rounds (itself job.rounds) i) inputs.names))));
    worlds = ends.0;
    comes = ends.1;
    see = ends.5 arrive;
    one = λ round within. ap (λ (e : Ending). e.meshes round) (sym ends.3) ∙ meant.meshes round within;
    agree = λ round within. agree_so (whole_after job inputs handout round) (ends.0 round).parts (ends.5 arrive round within);
    geometry = λ round within. rounds_keep_geometry files job inputs round verdict_is within;
  }

-- the job and the inputs are those of the words
done_headline : (words : Option Job) (s t : Seen) → LeavesDone words s t → Headline Done words s t
done_headline words s t h is job inputs handout files words_are told verdict_is handed arrive =
    let same_job : h.job ≡ job = same_Some h.job job (sym h.words_are ∙ words_are) in
    let own : verdict files h.job ≡ Ok h.inputs = subst (λ (o : Option Files). IfSome o (λ files. verdict files h.job ≡ Ok h.inputs)) told h.verdict in
    let same_inputs : h.inputs ≡ inputs = ok_is (sym own ∙ ap (verdict files) same_job ∙ verdict_is) in
    let own_handout : h.inputs.handout ≡ Some handout = ap (λ (i : Inputs). i.handout) same_inputs ∙ handed in
    let ends : MayEnd h.job h.inputs (Some handout) h.job.rounds s.carrier t.carrier h.ending = subst (λ (o : Option Handout). MayEnd h.job h.inputs o h.job.rounds s.carrier t.carrier h.ending) own_handout h.ends in
    let stored : Stores (all_outputs h.job h.inputs h.ending) (Some files) t.depot.files =
    subst (λ (before : Option Files). Stores (all_outputs h.job h.inputs h.ending) before t.depot.files) told (subst (λ (outs : List Output). Stores outs s.depot.files t.depot.files) (all-outputs h.job h.inputs h.ending) h.files) in
    subst (λ (j : Job). IsAsByOnePart j inputs handout files s t) same_job
    (subst (λ (i : Inputs). IsAsByOnePart h.job i handout files s t) same_inputs (as_by_one h.job h.inputs handout files s t h.ending ends stored own arrive))

pub headline : (status : Status) (words : Option Job) (s t : Seen) → Leaves status words s t → Headline status words s t
headline Done words s t h = done_headline words s t h
headline Usage words s t h = λ is. absurd cc
headline ReadFault words s t h = λ is. absurd cc
headline WriteFault words s t h = λ is. absurd cc
headline (Refused refusal) words s t h = λ is. absurd cc
headline (TooMany round stage count) words s t h = λ is. absurd cc
headline Memory words s t h = λ is. absurd cc
headline LinkFault words s t h = λ is. absurd cc
headline (BadLetter bytes) words s t h = λ is. absurd cc
headline (Starved part phase) words s t h = λ is. absurd cc
