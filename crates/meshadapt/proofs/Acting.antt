-- Lists of acts: what is put and stored by some acts and others, and the acts of rounds.
use Rattle.std.proofs.Common.{◌≡◌, ℕ, zero, suc, ◌+◌, ◌-◌, ◌<◌, ◌≤◌, map, List, [], ◌∷◌, ◌++◌, length, length-append, inl, inr, refl, sym, ap, ◌∙◌, subst, append_assoc, arith, add-one}
use Rattle.std.proofs.Math.Nat.{min-le_left, min-le_right}
use Rattle.std.proofs.lemmas.Bool.{cases_lt}
use Rattle.std.proofs.lemmas.List.{append-nil, map-append}
use Rattle.ma_cells.specs.declared.view.View.{View}
use Rattle.msh_write.specs.Text.{text_of}
use Rattle.ma_cells.specs.declared.batch.Batch.{Batch}
use Rattle.one_mesh.specs.Adaptation.{Plan, StaysWithin}
use Rattle.meshadapt.specs.Acts.{Act, PutLine, StoreFile, Ending, Output, acts_to, begun, bytes_of, end_acts, lines, outputs, part_act, round_acts, rounds_among, view_output}
use Rattle.meshadapt.specs.Printed.{mesh_line, mesh_name, round_line}
use Rattle.meshadapt.specs.Verdict.{Inputs, plan_of}
use Rattle.meshadapt.specs.Words.{Job}

pub bytes_of-append : (xs ys : List Act) → bytes_of (xs ++ ys) ≡ bytes_of xs ++ bytes_of ys
bytes_of-append [] ys = refl
bytes_of-append (PutLine line ∷ xs) ys = ap (λ bytes. line ++ bytes) (bytes_of-append xs ys) ∙ sym (append_assoc line (bytes_of xs) (bytes_of ys))
bytes_of-append (StoreFile name bytes ∷ xs) ys = bytes_of-append xs ys

pub bytes_of-line : (xs : List Act) (line : List ℕ) → bytes_of (xs ++ PutLine line ∷ []) ≡ bytes_of xs ++ line
bytes_of-line xs line = bytes_of-append xs (PutLine line ∷ []) ∙ ap (λ bytes. bytes_of xs ++ bytes) (append-nil line)

pub bytes_of-file : (xs : List Act) (name bytes : List ℕ) → bytes_of (xs ++ StoreFile name bytes ∷ []) ≡ bytes_of xs
bytes_of-file xs name bytes = bytes_of-append xs (StoreFile name bytes ∷ []) ∙ append-nil (bytes_of xs)

pub outputs-append : (xs ys : List Act) → outputs (xs ++ ys) ≡ outputs xs ++ outputs ys
outputs-append [] ys = refl
outputs-append (PutLine line ∷ xs) ys = outputs-append xs ys
outputs-append (StoreFile name bytes ∷ xs) ys =
    let first : Output = record { name = name; bytes = bytes } in
    ap (λ (more : List Output). first ∷ more) (outputs-append xs ys)

lines-append : (xs ys : List Act) → length (lines (xs ++ ys)) ≡ length (lines xs) + length (lines ys)
lines-append [] ys = zero_more (length (lines ys))
  where
    zero_more : (n : ℕ) → n ≡ 0 + n
    zero_more n = omega arith
lines-append (PutLine line ∷ xs) ys = let more = lines-append xs ys in omega arith
lines-append (StoreFile name bytes ∷ xs) ys = lines-append xs ys

-- ---- rounds
-- the line of a round
abbrev line_act : (meshes : ℕ → Batch) → ℕ → Act
line_act meshes round = PutLine (round_line round (meshes round))

pub rounds_store_nothing : (meshes : ℕ → Batch) (rounds : ℕ) → outputs (round_acts meshes rounds) ≡ []
rounds_store_nothing meshes zero = refl
rounds_store_nothing meshes (suc n) = outputs-append (round_acts meshes n) (line_act meshes (suc n) ∷ []) ∙ ap (λ (outs : List Output). outs ++ []) (rounds_store_nothing meshes n)

a_line_a_round : (meshes : ℕ → Batch) (rounds : ℕ) → length (lines (round_acts meshes rounds)) ≡ rounds
a_line_a_round meshes zero = refl
a_line_a_round meshes (suc n) =
    let before = a_line_a_round meshes n in
    let both = lines-append (round_acts meshes n) (line_act meshes (suc n) ∷ []) in
    omega arith

an_act_a_round : (meshes : ℕ → Batch) (rounds : ℕ) → length (round_acts meshes rounds) ≡ rounds
an_act_a_round meshes zero = refl
an_act_a_round meshes (suc n) =
    let before = an_act_a_round meshes n in
    let both = length-append (round_acts meshes n) (line_act meshes (suc n) ∷ []) in
    omega arith

-- fewer rounds come first
pub rounds_front : (meshes : ℕ → Batch) (few rounds : ℕ) → few ≤ rounds → (more : List Act) × (round_acts meshes rounds ≡ round_acts meshes few ++ more)
rounds_front meshes few zero h = let none : 0 ≡ few = omega arith in ([], subst (λ (n : ℕ). [] ≡ round_acts meshes n ++ []) none refl)
rounds_front meshes few (suc n) h =
    let last : List Act = line_act meshes (suc n) ∷ [] in
    elim (cases_lt few (suc n)) [
      | inl less ↦
          let before = rounds_front meshes few n (omega arith) in
          (before.0 ++ last, ap (λ (xs : List Act). xs ++ last) before.1 ∙ append_assoc (round_acts meshes few) before.0 last)
      | inr not_less ↦
          let all : suc n ≡ few = omega arith in
          ([], subst (λ (k : ℕ). round_acts meshes (suc n) ≡ round_acts meshes k ++ []) all (sym (append-nil (round_acts meshes (suc n)))))
    ]

-- a line more
pub one_line_more : (meshes : ℕ → Batch) (done : ℕ) → bytes_of (round_acts meshes (suc done)) ≡ bytes_of (round_acts meshes done) ++ round_line (suc done) (meshes (suc done))
one_line_more meshes done = bytes_of-line (round_acts meshes done) (round_line (suc done) (meshes (suc done)))

-- the acts of rounds are those of the meshes after them
pub same_rounds : (meshes others : ℕ → Batch) (rounds : ℕ) → ((round : ℕ) → round ≤ rounds → meshes round ≡ others round) → round_acts meshes rounds ≡ round_acts others rounds
same_rounds meshes others zero same = refl
same_rounds meshes others (suc n) same =
    ap (λ (mesh : Batch). round_acts meshes n ++ PutLine (round_line (suc n) mesh) ∷ []) (same (suc n) (omega arith))
    ∙ ap (λ (acts : List Act). acts ++ line_act others (suc n) ∷ []) (same_rounds meshes others n (λ round within. same round (omega arith)))

pub fewer_stay_within : (plan : Plan) (few rounds : ℕ) (mesh : Batch) → few ≤ rounds → StaysWithin plan rounds mesh → StaysWithin plan few mesh
fewer_stay_within plan few rounds mesh h within = λ round stage least greatest last. within round stage least (omega arith) last

pub none_pass : (plan : Plan) (mesh : Batch) → StaysWithin plan 0 mesh
none_pass plan mesh = λ round stage least greatest last. absurd (omega arith)

-- ---- runs
module _ (job : Job) (inputs : Inputs) where
  pub among_all : (acts : List Act) → StaysWithin (plan_of job inputs) job.rounds inputs.mesh → StaysWithin (plan_of job inputs) (rounds_among job acts) inputs.mesh
  among_all acts within = fewer_stay_within (plan_of job inputs) (rounds_among job acts) job.rounds inputs.mesh (min-le_left job.rounds (length (lines acts) - 1)) within

  pub among_first : (line : List ℕ) → StaysWithin (plan_of job inputs) (rounds_among job (PutLine line ∷ [])) inputs.mesh
  among_first line =
      let most = min-le_right job.rounds (length (lines (PutLine line ∷ [])) - 1) in
      fewer_stay_within (plan_of job inputs) (rounds_among job (PutLine line ∷ [])) 0 inputs.mesh (omega arith) (none_pass (plan_of job inputs) inputs.mesh)

  module _ (meshes : ℕ → Batch) where
    pub among_begun : (done : ℕ) (line : List ℕ) → StaysWithin (plan_of job inputs) (done + 1) inputs.mesh
        → StaysWithin (plan_of job inputs) (rounds_among job (begun done inputs meshes ++ PutLine line ∷ [])) inputs.mesh
    among_begun done line within =
        let plan : Plan = plan_of job inputs in
        let reached : List Act = begun done inputs meshes ++ PutLine line ∷ [] in
        let before = a_line_a_round meshes done in
        let both = lines-append (begun done inputs meshes) (PutLine line ∷ []) in
        let most = min-le_right job.rounds (length (lines reached) - 1) in
        fewer_stay_within plan (rounds_among job reached) (done + 1) inputs.mesh (omega arith) within

    -- behind the acts up to a round comes the next round's line
    pub next_round : (done : ℕ) → done + 1 ≤ job.rounds
        → (rest : List Act) × (begun job.rounds inputs meshes ≡ begun done inputs meshes ++ PutLine (round_line (done + 1) (meshes (done + 1))) ∷ rest)
    next_round done more =
        let first : Act = PutLine (mesh_line inputs.mesh inputs.loose) in
        let next : Act = line_act meshes (suc done) in
        let behind = rounds_front meshes (suc done) job.rounds (omega arith) in
        let xs : List Act = round_acts meshes done in
        let rest : List Act = behind.0 in
        let same : round_acts meshes job.rounds ≡ xs ++ next ∷ rest = behind.1 ∙ append_assoc xs (next ∷ []) rest in
        (rest, subst (λ (n : ℕ). begun job.rounds inputs meshes ≡ begun done inputs meshes ++ PutLine (round_line n (meshes n)) ∷ rest) (sym (add-one done)) (ap (λ (ys : List Act). first ∷ ys) same))

    pub begun_store_nothing : (rounds : ℕ) → outputs (begun rounds inputs meshes) ≡ []
    begun_store_nothing rounds = rounds_store_nothing meshes rounds

    -- the line of the mesh, and one for each round
    pub begun_long : (rounds : ℕ) → length (begun rounds inputs meshes) ≡ rounds + 1
    begun_long rounds = let each = an_act_a_round meshes rounds in omega arith

-- what comes before an act of some is shorter than they
pub shorter : (acts done rest : List Act) (act : Act) → acts ≡ done ++ act ∷ rest → length done < length acts
shorter acts done rest act are =
    let long : length acts ≡ length done + length (act ∷ rest) = ap length are ∙ length-append done (act ∷ rest) in
    omega arith

-- ---- files that are stored
abbrev pub store_act : Output → Act
store_act output = StoreFile output.name output.bytes

abbrev pub stores_of : List Output → List Act
stores_of outs = map store_act outs

pub stores-outputs : (outs : List Output) → outputs (stores_of outs) ≡ outs
stores-outputs [] = refl
stores-outputs (output ∷ outs) = ap (λ (more : List Output). output ∷ more) (stores-outputs outs)

pub stores-bytes : (outs : List Output) → bytes_of (stores_of outs) ≡ []
stores-bytes [] = refl
stores-bytes (output ∷ outs) = stores-bytes outs

-- ---- the end of a run
module _ (job : Job) (inputs : Inputs) (ending : Ending) where
  abbrev pub all_outputs : List Output
  all_outputs = record { name = mesh_name job; bytes = text_of (ending.meshes job.rounds) inputs.names } ∷ map (view_output job inputs) ending.views

  abbrev pub last_act : Act
  last_act = PutLine ending.line

  part_acts : (views : List View) → map (part_act job inputs) views ≡ stores_of (map (view_output job inputs) views)
  part_acts [] = refl
  part_acts (view ∷ views) = ap (λ (acts : List Act). part_act job inputs view ∷ acts) (part_acts views)

  end_is : end_acts job inputs ending ≡ stores_of all_outputs ++ last_act ∷ []
  end_is = ap (λ (acts : List Act). StoreFile (mesh_name job) (text_of (ending.meshes job.rounds) inputs.names) ∷ (acts ++ last_act ∷ [])) (part_acts ending.views)

  abbrev pub before_end : List Act
  before_end = begun job.rounds inputs ending.meshes

  pub acts_are : acts_to ending job inputs ≡ before_end ++ (stores_of all_outputs ++ last_act ∷ [])
  acts_are = ap (λ (acts : List Act). before_end ++ acts) end_is

  -- some of the files were stored
  module _ (done : List Output) where
    abbrev pub stored : List Act
    stored = before_end ++ stores_of done

    pub stored-outputs : outputs stored ≡ done
    stored-outputs = outputs-append before_end (stores_of done) ∙ (ap (λ (outs : List Output). outs ++ outputs (stores_of done)) (begun_store_nothing job inputs ending.meshes job.rounds) ∙ stores-outputs done)

    pub stored-bytes : bytes_of stored ≡ bytes_of before_end
    stored-bytes = bytes_of-append before_end (stores_of done) ∙ (ap (λ (bytes : List ℕ). bytes_of before_end ++ bytes) (stores-bytes done) ∙ append-nil (bytes_of before_end))

    pub comes_next : (output : Output) (rest : List Output) → all_outputs ≡ done ++ output ∷ rest → acts_to ending job inputs ≡ stored ++ store_act output ∷ (stores_of rest ++ last_act ∷ [])
    comes_next output rest are =
        let tail : List Act = last_act ∷ [] in
        let split : stores_of all_outputs ≡ stores_of done ++ store_act output ∷ stores_of rest = ap stores_of are ∙ map-append store_act done (output ∷ rest) in
        let grouped : stores_of all_outputs ++ tail ≡ stores_of done ++ (store_act output ∷ (stores_of rest ++ tail))
        = ap (λ (acts : List Act). acts ++ tail) split ∙ append_assoc (stores_of done) (store_act output ∷ stores_of rest) tail in
        acts_are ∙ (ap (λ (acts : List Act). before_end ++ acts) grouped ∙ sym (append_assoc before_end (stores_of done) (store_act output ∷ (stores_of rest ++ tail))))

  -- all were stored, and the last line is due
  pub comes_last : acts_to ending job inputs ≡ stored all_outputs ++ last_act ∷ []
  comes_last = acts_are ∙ sym (append_assoc before_end (stores_of all_outputs) (last_act ∷ []))

  pub all-outputs : outputs (acts_to ending job inputs) ≡ all_outputs
  all-outputs = ap outputs comes_last ∙ (outputs-append (stored all_outputs) (last_act ∷ []) ∙ (append-nil (outputs (stored all_outputs)) ∙ stored-outputs all_outputs))

  pub all-bytes : bytes_of (acts_to ending job inputs) ≡ bytes_of before_end ++ ending.line
  all-bytes = ap bytes_of comes_last ∙ (bytes_of-line (stored all_outputs) ending.line ∙ ap (λ (bytes : List ℕ). bytes ++ ending.line) (stored-bytes all_outputs))
