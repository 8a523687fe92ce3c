-- Files that are stored one after another, and what of them is left where it breaks off.
use Rattle.std.proofs.Common.{◌≡◌, ℕ, suc, ◌+◌, add-one, List, [], ◌∷◌, ◌++◌, Option, Some, None, length, take, drop, inl, inr, refl, sym, subst, ap, ◌∙◌, append_assoc}
use Rattle.std.specs.Prelude.{◌⊎◌, IfSome, Ok, Err, string_bytes}
use Rattle.std.proofs.Math.Seq.{take-length}
use Rattle.std.proofs.lemmas.List.{append-nil, take-append-drop}
use Rattle.std.specs.FinMap.{insert}
use Rattle.ma_io.specs.Count.{Rose}
use Rattle.ma_io.specs.Files.{Files}
use Rattle.ma_io.specs.Held.{Held}
use Rattle.ma_io.specs.Store.{HoldsFront}
use Rattle.meshadapt.specs.Acts.{Output, files_with}
use Rattle.meshadapt.specs.Outcome.{Stores, StoresFront}
use Rattle.meshadapt.specs.declared.halt.Halt.{Halt}
use Rattle.meshadapt.specs.declared.halt.Halt.TheVariants as halt
use Rattle.meshadapt.specs.steps.Running.{StoresOne}
use Rattle.meshadapt.specs.steps.Storing.{BreaksAt, BreaksBehind, StoresAll}

-- ---- files with some put in, and then others
pub files_with-append : (xs ys : List Output) (files : Files) → files_with (xs ++ ys) files ≡ files_with ys (files_with xs files)
files_with-append [] ys files = refl
files_with-append (x ∷ xs) ys files = files_with-append xs ys (insert files x.name x.bytes)

stores_told : (outs : List Output) (files : Files) (after : Option Files) → Stores outs (Some files) after → after ≡ Some (files_with outs files)
stores_told [] files after h = h
stores_told (output ∷ outs) files after h = h

pub stores_then : (xs ys : List Output) (a b c : Option Files) → Stores xs a b → Stores ys b c → Stores (xs ++ ys) a c
stores_then [] ys a b c h k = subst (λ (o : Option Files). Stores ys o c) h k
stores_then (x ∷ xs) ys None b c h k = tt
stores_then (x ∷ xs) ys (Some files) b c h k =
    let told = stores_told ys (files_with (x ∷ xs) files) c (subst (λ (o : Option Files). Stores ys o c) h k) in
    told ∙ sym (ap Some (files_with-append (x ∷ xs) ys files))

-- a front of a file after all these
module _ (xs ys : List Output) (name bytes : List ℕ) where
  pub front_stored : (a b c : Option Files) → Stores xs a b → StoresFront ys name bytes b c → StoresFront (xs ++ ys) name bytes a c
  front_stored None b c h k = tt
  front_stored (Some files) b c h k =
      let told : b ≡ Some (files_with xs files) = stores_told xs files b h in
      subst (λ (fs : Files). HoldsFront fs c name bytes) (sym (files_with-append xs ys files)) (subst (λ (o : Option Files). StoresFront ys name bytes o c) told k)

-- ---- the last of some
pub last_of : (x : Output) (xs : List Output) → (front : List Output) × ((last : Output) × (x ∷ xs ≡ front ++ last ∷ []))
last_of x [] = ([], (x, refl))
last_of x (y ∷ ys) = let more = last_of y ys in (x ∷ more.0, (more.1.0, ap (λ (outs : List Output). x ∷ outs) more.1.1))

-- a whole file is a front of it
pub whole_front : (front : List Output) (last : Output) (a c : Option Files) → Stores (front ++ last ∷ []) a c → StoresFront front last.name last.bytes a c
whole_front front last None c h = tt
whole_front front last (Some files) c h =
    let before : Files = files_with front files in
    let told : c ≡ Some (insert before last.name last.bytes) = stores_told (front ++ last ∷ []) files c h ∙ ap Some (files_with-append front (last ∷ []) files) in
    inr (length last.bytes, told ∙ ap (λ (bytes : List ℕ). Some (insert before last.name bytes)) (sym (take-length last.bytes)))

-- ---- memory runs out
behind_last : (x : Output) (xs : List Output) (s t : Held) → Stores (x ∷ xs) s.files t.files → BreaksBehind (x ∷ xs) s t
behind_last x xs s t h =
    let found = last_of x xs in
    let front : List Output = found.0 in
    let last : Output = found.1.0 in
    record { done = front; output = last; rest = []; outputs_are = found.1.1; files = whole_front front last s.files t.files (subst (λ (outs : List Output). Stores outs s.files t.files) found.1.1 h) }

-- behind all of some, before others
behind_all : (xs ys : List Output) (s t : Held) → Stores xs s.files t.files → (t.files ≡ s.files) ⊎ BreaksBehind (xs ++ ys) s t
behind_all [] ys s t h = inl h
behind_all (x ∷ xs) ys s t h =
    let broken = behind_last x xs s t h in
    inr (record {
      done = broken.done;
      output = broken.output;
      rest = broken.rest ++ ys;
      outputs_are = ap (λ (outs : List Output). outs ++ ys) broken.outputs_are ∙ append_assoc broken.done (broken.output ∷ broken.rest) ys;
      files = broken.files;
    })

-- ---- some, and then others
module _ (xs ys : List Output) (s m t : Held) (h : Stores xs s.files m.files) (counts : m.store_faults ≡ s.store_faults) where
  memory_then : (t.files ≡ m.files) ⊎ BreaksBehind ys m t → (t.files ≡ s.files) ⊎ BreaksBehind (xs ++ ys) s t
  memory_then (inl same) = behind_all xs ys s t (subst (λ (o : Option Files). Stores xs s.files o) (sym same) h)
  memory_then (inr broken) = inr (record {
    done = xs ++ broken.done;
    output = broken.output;
    rest = broken.rest;
    outputs_are = ap (λ (outs : List Output). xs ++ outs) broken.outputs_are ∙ sym (append_assoc xs broken.done (broken.output ∷ broken.rest));
    files = front_stored xs broken.done broken.output.name broken.output.bytes s.files m.files t.files h broken.files;
  })

  broken_then : (name : List ℕ) → BreaksAt name ys m t → BreaksAt name (xs ++ ys) s t
  broken_then name broken =
      let output : Output = record { name = name; bytes = broken.bytes } in
      record {
        done = xs ++ broken.done;
        bytes = broken.bytes;
        rest = broken.rest;
        outputs_are = ap (λ (outs : List Output). xs ++ outs) broken.outputs_are ∙ sym (append_assoc xs broken.done (output ∷ broken.rest));
        counted = subst (λ (n : ℕ). Rose n t.store_faults) counts broken.counted;
        files = front_stored xs broken.done name broken.bytes s.files m.files t.files h broken.files;
      }

  pub all_stored : (X : Type 0) (x : X) → StoresAll {X = X} (Ok x) ys m t → StoresAll {X = X} (Ok x) (xs ++ ys) s t
  all_stored X x k = (stores_then xs ys s.files m.files t.files h k.0, k.1 ∙ counts)

  pub all_broken : (X Y : Type 0) (why : Halt) → StoresAll {X = X} (Err why) ys m t → StoresAll {X = Y} (Err why) (xs ++ ys) s t
  all_broken X Y (halt.Unread file) k = k
  all_broken X Y (halt.Refused refusal) k = k
  all_broken X Y (halt.TooMany round stage count) k = k
  all_broken X Y (halt.Unstored name) k = broken_then (string_bytes name) k
  all_broken X Y halt.Unput k = k
  all_broken X Y (halt.Parts fault) k = k
  all_broken X Y halt.Memory k = memory_then k

-- what breaks off some breaks off them and others
pub broken_before : (X Y : Type 0) (xs ys : List Output) (s t : Held) (why : Halt) → StoresAll {X = X} (Err why) xs s t → StoresAll {X = Y} (Err why) (xs ++ ys) s t
broken_before X Y xs ys s t (halt.Unread file) h = h
broken_before X Y xs ys s t (halt.Refused refusal) h = h
broken_before X Y xs ys s t (halt.TooMany round stage count) h = h
broken_before X Y xs ys s t (halt.Unstored name) h =
    let output : Output = record { name = string_bytes name; bytes = h.bytes } in
    record { done = h.done; bytes = h.bytes; rest = h.rest ++ ys; outputs_are = ap (λ (outs : List Output). outs ++ ys) h.outputs_are ∙ append_assoc h.done (output ∷ h.rest) ys; counted = h.counted; files = h.files }
broken_before X Y xs ys s t halt.Unput h = h
broken_before X Y xs ys s t (halt.Parts fault) h = h
broken_before X Y xs ys s t halt.Memory (inl none) = inl none
broken_before X Y xs ys s t halt.Memory (inr broken) =
    inr (record {
      done = broken.done;
      output = broken.output;
      rest = broken.rest ++ ys;
      outputs_are = ap (λ (outs : List Output). outs ++ ys) broken.outputs_are ∙ append_assoc broken.done (broken.output ∷ broken.rest) ys;
      files = broken.files;
    })

-- memory ran out once all of some were stored
pub memory_behind : (X : Type 0) (xs : List Output) (s t : Held) → Stores xs s.files t.files → StoresAll {X = X} (Err halt.Memory) xs s t
memory_behind X xs s t h = subst (λ (outs : List Output). (t.files ≡ s.files) ⊎ BreaksBehind outs s t) (append-nil xs) (behind_all xs [] s t h)

-- ---- one
module _ (output : Output) (s t : Held) where
  pub one_stored : (X : Type 0) (x : X) → StoresOne {X = X} (Ok x) output.name output.bytes s t → StoresAll {X = X} (Ok x) (output ∷ []) s t
  one_stored X x h = h

  one_front : (a c : Option Files) → IfSome a (λ files. HoldsFront files c output.name output.bytes) → StoresFront [] output.name output.bytes a c
  one_front a c h = h

  pub one_broken : (X Y : Type 0) (why : Halt) → StoresOne {X = X} (Err why) output.name output.bytes s t → StoresAll {X = Y} (Err why) (output ∷ []) s t
  one_broken X Y (halt.Unread file) h = h
  one_broken X Y (halt.Refused refusal) h = h
  one_broken X Y (halt.TooMany round stage count) h = h
  one_broken X Y (halt.Unstored name) h =
      let named : List ℕ → List Output = λ n. record { name = n; bytes = output.bytes } ∷ [] in
      record { done = []; bytes = output.bytes; rest = []; outputs_are = ap named (sym h.0); counted = h.1; files = subst (λ (n : List ℕ). StoresFront [] n output.bytes s.files t.files) (sym h.0) h.2 }
  one_broken X Y halt.Unput h = h
  one_broken X Y (halt.Parts fault) h = h
  one_broken X Y halt.Memory h = inr (record { done = []; output = output; rest = []; outputs_are = refl; files = h })

-- ---- one after the first of some
module _ (all : List Output) (n : ℕ) (output : Output) (more : take (suc n) all ≡ take n all ++ output ∷ []) (s m t : Held) (h : Stores (take n all) s.files m.files) (counts : m.store_faults ≡ s.store_faults) where
  grown : take (n + 1) all ≡ take n all ++ output ∷ []
  grown = ap (λ (k : ℕ). take k all) (add-one n) ∙ more

  pub next_stored : (X : Type 0) (x : X) → StoresOne {X = X} (Ok x) output.name output.bytes m t → StoresAll {X = X} (Ok x) (take (n + 1) all) s t
  next_stored X x k = subst (λ (outs : List Output). StoresAll {X = X} (Ok x) outs s t) (sym grown) (all_stored (take n all) (output ∷ []) s m t h counts X x k)

  pub next_broken : (X Y : Type 0) (why : Halt) → StoresOne {X = X} (Err why) output.name output.bytes m t → StoresAll {X = Y} (Err why) all s t
  next_broken X Y why k =
      let so_far = all_broken (take n all) (output ∷ []) s m t h counts X X why (one_broken output m t X X why k) in
      subst (λ (outs : List Output). StoresAll {X = Y} (Err why) outs s t) (ap (λ (outs : List Output). outs ++ drop (n + 1) all) (sym grown) ∙ take-append-drop (n + 1) all)
      (broken_before X Y (take n all ++ output ∷ []) (drop (n + 1) all) s t why so_far)

-- memory ran out behind the first of some
pub none_next : (X : Type 0) (all : List Output) (n : ℕ) (s t : Held) → Stores (take n all) s.files t.files → StoresAll {X = X} (Err halt.Memory) all s t
none_next X all n s t h = subst (λ (outs : List Output). StoresAll {X = X} (Err halt.Memory) outs s t) (take-append-drop n all) (behind_all (take n all) (drop n all) s t h)
