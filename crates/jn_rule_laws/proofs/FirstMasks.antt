-- Where there are masks, one is the first by name.
use Rattle.std.proofs.Common.{◌≡◌, List, [], ◌∷◌, refl, sym, subst}
use Rattle.std.specs.Cmp.{IsTotalOrder, then_total, on_total, nat_cmp_total}
use Rattle.jn_base.specs.declared.tree.Name.{Name}
use Rattle.jn_base.specs.declared.tree.Program.{Program}
use Rattle.jn_base.specs.ClassOrder.{name_total}
use Rattle.jn_base.specs.Atoms.{Among}
use Rattle.jn_base.specs.ResolveTypes.{mask_names}
use Rattle.jn_sem.specs.Values.{Masked}
use Rattle.jn_laws.proofs.Lists.{chosen, Chosen, got}
use Rattle.jn_laws.proofs.Firsts.{first_by}
use Rattle.jn_rules.specs.Questions.{mask_cmp, name_number}
use Rattle.jn_rule_laws.specs.LawsOfForms.{NoFirstMask}

mask_total : (p : Program) → IsTotalOrder (mask_cmp p)
mask_total p = then_total (name_total p) (on_total name_number nat_cmp_total)

pub no_first_mask : NoFirstMask
no_first_mask p m free f h = chosen (Masked (mask_names p) m) (mask_names p) (λ c. at c c.items refl (c.all f (got (mask_names p) h.number f h.name) h)) where
  at : (c : Chosen (Masked (mask_names p) m) (mask_names p)) (ns : List Name) → c.items ≡ ns → Among ns f → ⊥
  at c [] e a = elim a [ ]
  at c (n ∷ ns) e a =
      let r = first_by (mask_cmp p) (mask_total p) n ns in
      free r.0 (record {
        masked = c.holds r.0 (subst (λ (xs : List Name). Among xs r.0) (sym e) r.1.among);
        first = λ g k l. r.1.none g (subst (λ (xs : List Name). Among xs g) e (c.all g (got (mask_names p) k.number g k.name) k)) l;
      })
