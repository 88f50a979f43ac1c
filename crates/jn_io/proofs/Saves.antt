-- A save more, and what is then found under a name.
use Rattle.std.proofs.Common.{◌≡◌, ℕ, zero, suc, ◌+◌, ◌<◌, Bool, true, false, List, [], ◌∷◌, ◌++◌, length, take, drop, map, cond, Some, None, MatchOption, unwrap_or, slice_get, string_bytes, get_or, nat_eq, ap, sym, ◌∙◌, add-one, refl, arith}
use Rattle.std.specs.declared.option.Option.{Option}
use Rattle.std.proofs.lemmas.List.{reverse-append}
use Rattle.std.proofs.lemmas.Option.{slice_get_read}
use Rattle.std.proofs.Math.Seq.{take-suc}
use Rattle.std.specs.Option.{option_map, ForSome}
use Rattle.std.specs.Ordering.{eq_by_cmp}
use Rattle.std.specs.Cmp.{eq_by_cmp_equiv}
use Rattle.std.specs.Cmp.Lexicographic.{nat_list_cmp_total, texts_ties}
use Rattle.std.specs.FinMap.{get, insert, from_entries, get-insert}
use lib.Pointwise.{pointwise}
use Rattle.jn_io.specs.Told.{name_cmp, Files}
use Rattle.jn_io.specs.MemStoreState.{MemStoreState}
use Rattle.jn_io.specs.MemFiles.{files_of, entry_of, bytes_at, rest_of, IsWithin, AddsFile}
use Rattle.jn_io.specs.declared.mem_files.MemFile.{MemFile}
use Rattle.jn_io.specs.declared.mem_files.Reading.{Reading}

pub files_of-snoc : (saves : List MemFile) (file : MemFile) → files_of (saves ++ file ∷ []) ≡ insert (files_of saves) (string_bytes file.name) file.bytes.items
files_of-snoc saves file = ap (λ (l : List MemFile). from_entries {R = name_cmp} (map entry_of l)) (reverse-append saves (file ∷ []))

take_one_more : (saves : List MemFile) (i : ℕ) (file : MemFile) → i < length saves → file ≡ get_or saves i file → take (i + 1) saves ≡ take i saves ++ file ∷ []
take_one_more saves i file below is = rw (add-one, take-suc saves i file below) (ap (λ (f : MemFile). take i saves ++ f ∷ []) (sym is))

-- among the first i + 1 saves the one at i comes before the others
get-files_of-take : (saves : List MemFile) (i : ℕ) (file : MemFile) (name : List ℕ) → i < length saves → file ≡ get_or saves i file →
    get (files_of (take (i + 1) saves)) name ≡ cond (eq_by_cmp name_cmp name (string_bytes file.name)) (Some file.bytes.items) (get (files_of (take i saves)) name)
get-files_of-take saves i file name below is =
    ap (λ (l : List MemFile). get (files_of l) name) (take_one_more saves i file below is)
    ∙ ap (λ m. get m name) (files_of-snoc (take i saves) file)
    ∙ get-insert nat_list_cmp_total (files_of (take i saves)) (string_bytes file.name) file.bytes.items name

same_name : (b : Bool) (a name : List ℕ) → b ≡ pointwise nat_eq a name → eq_by_cmp name_cmp name a ≡ b
same_name b a name e = (eq_by_cmp_equiv nat_list_cmp_total).symm name a ∙ sym (texts_ties a name) ∙ sym e

-- a save of this name is the one to be found
pub found_here : (saves : List MemFile) (i : ℕ) (file : MemFile) (name : List ℕ) → i < length saves → file ≡ get_or saves i file → true ≡ pointwise nat_eq (string_bytes file.name) name →
    get (files_of (take (i + 1) saves)) name ≡ bytes_at saves i
found_here saves i file name below is same =
    get-files_of-take saves i file name below is
    ∙ ap (λ b. cond b (Some file.bytes.items) (get (files_of (take i saves)) name)) (same_name true (string_bytes file.name) name same)
    ∙ sym (ap (option_map (λ (f : MemFile). f.bytes.items)) (slice_get_read saves (length saves) i file refl below is))

-- a save of another name changes nothing
pub not_found_here : (saves : List MemFile) (i : ℕ) (file : MemFile) (name : List ℕ) → i < length saves → file ≡ get_or saves i file → false ≡ pointwise nat_eq (string_bytes file.name) name →
    get (files_of (take (i + 1) saves)) name ≡ get (files_of (take i saves)) name
not_found_here saves i file name below is other =
    get-files_of-take saves i file name below is
    ∙ ap (λ b. cond b (Some file.bytes.items) (get (files_of (take i saves)) name)) (same_name false (string_bytes file.name) name other)

-- what was found below i is found below i + 1 where nothing changed
pub still_found : (found : Option ℕ) (i : ℕ) (old new : Option (List ℕ)) (at : ℕ → Option (List ℕ)) → new ≡ old →
    MatchOption found (old ≡ None) (λ k. (k < i) × (old ≡ at k)) → MatchOption found (new ≡ None) (λ k. (k < i + 1) × (new ≡ at k))
still_found None i old new at e h = e ∙ h
still_found (Some k) i old new at e h = let below : k < i = h.0 in (omega arith, e ∙ h.1)

-- one save more is one file that holds its bytes
pub files_of-AddsFile : (old new : List MemFile) (name bytes : List ℕ) → AddsFile old new name bytes → files_of new ≡ insert (files_of old) name bytes
files_of-AddsFile old new name bytes a =
    ap files_of a.behind ∙ files_of-snoc old a.file
    ∙ ap (λ n. insert (files_of old) n a.file.bytes.items) a.name_is ∙ ap (insert (files_of old) name) a.bytes_are

slice_get-append : {X : Type 0} (xs ys : List X) (k : ℕ) → k < length xs → slice_get (xs ++ ys) k ≡ slice_get xs k
slice_get-append [] ys k below = absurd (omega arith)
slice_get-append (x ∷ xs) ys zero below = refl
slice_get-append (x ∷ xs) ys (suc k) below = slice_get-append xs ys k (omega arith)

-- the bytes of a save stay where there is one more
bytes_at-AddsFile : (old new : List MemFile) (name bytes : List ℕ) (k : ℕ) → AddsFile old new name bytes → k < length old → bytes_at new k ≡ bytes_at old k
bytes_at-AddsFile old new name bytes k a below = ap (option_map (λ (f : MemFile). f.bytes.items)) (ap (λ (l : List MemFile). slice_get l k) a.behind ∙ slice_get-append old (a.file ∷ []) k below)

-- what is open stays as it was where there is one save more
pub rest_of-AddsFile : (old new : List MemFile) (name bytes : List ℕ) (opened : Option Reading) → AddsFile old new name bytes → ForSome opened (IsWithin old) → rest_of new opened ≡ rest_of old opened
rest_of-AddsFile old new name bytes None a within = refl
rest_of-AddsFile old new name bytes (Some r) a within = ap (λ b. drop r.taken (unwrap_or b [])) (bytes_at-AddsFile old new name bytes r.save a (within r refl).there)

-- states with the same parts are the same
pub same_state : {files files' : Files} {rest rest' fails fails' : List ℕ} {calls calls' reads reads' saves saves' : ℕ} →
    files ≡ files' → rest ≡ rest' → fails ≡ fails' → calls ≡ calls' → reads ≡ reads' → saves ≡ saves' →
    ◌≡◌ {A = MemStoreState} (record { files = files; rest = rest; fails = fails; calls = calls; read_faults = reads; save_faults = saves })
    (record { files = files'; rest = rest'; fails = fails'; calls = calls'; read_faults = reads'; save_faults = saves' })
same_state a b c d e f = λ i. record { files = a i; rest = b i; fails = c i; calls = d i; read_faults = e i; save_faults = f i }
