-- How loops gather what declarations at paths have.
use Rattle.std.proofs.Common.{◌≡◌, ◌<◌, ◌≤◌, ◌+◌, ℕ, List, [], length, Contains, slice_get, sym, subst, refl, take, get_or, ◌↔◌}
use Rattle.std.specs.List.{Any}
use Rattle.std.specs.declared.vec.Vec.{Vec}
use Rattle.std.specs.declared.alloc.Global.{Global}
use Rattle.std.proofs.lemmas.Option.{slice_get_read}
use Rattle.jn_reach.proofs.Searches.{same_some}
use Rattle.jn_base.specs.declared.tree.Name.{Name}
use Rattle.jn_table.specs.Gather.{Gains, HasNameAt, part_of}
use Rattle.jn_table.specs.Own.{HasAt}
use Rattle.jn_table.specs.declared.entry.Entry.{Entry}
use Rattle.jn_table.specs.declared.gather.Part.{Part}
use Rattle.jn_table.proofs.Places.{same_item}
use Rattle.jn_table.proofs.Gathers.{gains_none, gains_more, gains_all, gains_exact, none_of}

abbrev HasAmong : List Entry → Part → List ℕ → Name → Type 0
HasAmong es part row D = Any (HasNameAt es part D) row

pub own_none : (es : List Entry) (part : Part) (all : List Name) → all ≡ [] → Gains (HasAmong es part []) [] all
own_none es part all e =
    subst (Gains (HasAmong es part []) []) (sym e)
    (gains_none (HasAmong es part []) [] (λ D a. none_of (HasNameAt es part D) a))

-- one more number: the names of its entry
pub own_more : (es : List Entry) (part : Part) (row : List ℕ) (k d : ℕ) (x : Entry) (mid after : List Name)
    → k < length row → get_or row k d < length es → x ≡ get_or es (get_or row k d) x
    → Gains (HasAmong es part (take k row)) [] mid → Gains (Contains (part_of part x)) mid after
    → Gains (HasAmong es part (take (k + 1) row)) [] after
own_more es part row k d x mid after l within is g h =
    let at = slice_get_read es (length es) (get_or row k d) x refl within is in
    gains_more (λ i D. HasNameAt es part D i) row k (get_or row k d) (Contains (part_of part x)) [] mid after l
    (same_item row k d l)
    (λ D w. subst (λ (e : Entry). Contains (part_of part e) D)
    (same_some (slice_get es (get_or row k d)) w.0 x w.1 at) w.2)
    (λ D c. (x, at, c)) g h

pub own_all : (es : List Entry) (part : Part) (row : List ℕ) (k : ℕ) (all : List Name) → length row ≤ k
    → Gains (HasAmong es part (take k row)) [] all → (D : Name) → Contains all D ↔ Any (HasNameAt es part D) row
own_all es part row k all past g =
    gains_exact (HasAmong es part row) [] all refl (gains_all (λ i D. HasNameAt es part D i) row k [] all past g)

-- one more row
pub gathered_none : (rows : List (Vec Name Global)) (all : List Name) → all ≡ []
    → Gains (λ D. Any (HasAt rows D) []) [] all
gathered_none rows all e =
    subst (Gains (λ D. Any (HasAt rows D) []) []) (sym e)
    (gains_none (λ D. Any (HasAt rows D) []) [] (λ D a. none_of (HasAt rows D) a))

pub gathered_more : (rows : List (Vec Name Global)) (numbers : List ℕ) (i d : ℕ) (row : Vec Name Global)
    (mid after : List Name)
    → i < length numbers → get_or numbers i d < length rows → row ≡ get_or rows (get_or numbers i d) row
    → Gains (λ D. Any (HasAt rows D) (take i numbers)) [] mid → Gains (Contains row.items) mid after
    → Gains (λ D. Any (HasAt rows D) (take (i + 1) numbers)) [] after
gathered_more rows numbers i d row mid after l within is g h =
    gains_more (λ n D. HasAt rows D n) numbers i (get_or numbers i d) (Contains row.items) [] mid after l
    (same_item numbers i d l)
    (λ D w. subst (λ (v : Vec Name Global). Contains v.items D)
    (same_some (slice_get rows (get_or numbers i d)) w.row row w.at
    (slice_get_read rows (length rows) (get_or numbers i d) row refl within is)) w.has)
    (λ D c. record {
      row = row;
      at = slice_get_read rows (length rows) (get_or numbers i d) row refl within is;
      has =
          c;
    }) g h

pub gathered_all : (rows : List (Vec Name Global)) (numbers : List ℕ) (i : ℕ) (all : List Name) → length numbers ≤ i
    → Gains (λ D. Any (HasAt rows D) (take i numbers)) [] all → (D : Name)
    → Contains all D ↔ Any (HasAt rows D) numbers
gathered_all rows numbers i all past g =
    gains_exact (λ D. Any (HasAt rows D) numbers) [] all refl
    (gains_all (λ n D. HasAt rows D n) numbers i [] all past g)
