-- Turns from their parts.
use Rattle.std.proofs.Common.{◌≡◌, ◌↔◌, List, [], Contains, ap, arith}
use Rattle.jn_reach.specs.Chain.{Chain}
use Rattle.jn_base.specs.declared.tree.Program.{Program}
use Rattle.jn_base.specs.Atoms.{Atom}
use Rattle.jn_base.specs.Scopes.{Scope}
use Rattle.jn_sem.specs.Search.{Climbs, Spreads, Enters, TurnsTo, rank}
use Rattle.jn_subtype.specs.Older.{IsAsOld, IsOlder}
use Rattle.jn_subtype.specs.Turns.{Adds, SpreadEnters}
use Rattle.jn_subtype.proofs.Addings.{FromOne, adds_all}

pub spread_enters_found : {p : Program} {s : Scope} (z : Atom) (ws ts : List Atom) → ((w : Atom) → Contains ws w ↔ Spreads p s z w)
    → Adds (FromOne (Enters p s) ws) [] ts → (t : Atom) → Contains ts t ↔ SpreadEnters p s z t
spread_enters_found {p} {s} z ws ts each a t = (to, back) where
  to : Contains ts t → SpreadEnters p s z t
  to h = let u = (adds_all a t).0 h in record { spread = u.origin; spreads = (each u.origin).0 u.among; enters = u.by }

  back : SpreadEnters p s z t → Contains ts t
  back h = (adds_all a t).1 (record { origin = h.spread; among = (each h.spread).1 h.spreads; by = h.enters })

pub turns_found : {p : Program} {s : Scope} (x : Atom) (zs ts : List Atom) → ((z : Atom) → Contains zs z ↔ Chain (Climbs p s) x z)
    → Adds (FromOne (SpreadEnters p s) zs) [] ts → (t : Atom) → Contains ts t ↔ TurnsTo p s x t
turns_found {p} {s} x zs ts each a t = (to, back) where
  to : Contains ts t → TurnsTo p s x t
  to h =
      let u = (adds_all a t).0 h in
      record { climbed = u.origin; spread = u.by.spread; climbs = (each u.origin).0 u.among; spreads = u.by.spreads; enters = u.by.enters }

  back : TurnsTo p s x t → Contains ts t
  back h =
      (adds_all a t).1 (record {
        origin = h.climbed;
        among = (each h.climbed).1 h.climbs;
        by = record { spread = h.spread; spreads = h.spreads; enters = h.enters };
      })

-- a path older than one that is as old, or the same

pub older_than : {s : Scope} {x z t : Atom} → IsAsOld s x z → IsOlder s z t → IsOlder s x t
older_than o h = record { anchored = h.anchored; less = omega (arith, o.same, h.less) }

pub older_at : {s : Scope} {z w t : Atom} → w.anchor ≡ z.anchor → IsOlder s w t → IsOlder s z t
older_at {s} {z} {w} {t} e h = record { anchored = h.anchored; less = omega (arith, ap (rank s) e, h.less) }
