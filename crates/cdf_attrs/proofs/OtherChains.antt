-- The chains that a command on an entry leaves: all but the one that it names.
use Rattle.cdf_attrs.proofs.Common.{AttributeShape, Bool, Chain, EntryKind, FindsChain, G, GrEntries, List, None, Option, R, Some, Z, ZEntries, ap, content, entries_chain, eq-eqb, eqb-true, false, refl, same_Some, shape, slice_get, subst, sym, true, ℕ, ◌&&◌, ◌==◌, ◌∙◌, ◌≡◌}
use Rattle.cdf_attrs.specs.Known.{is_same_chain}
use Rattle.cdf_edits.specs.Commands.EntryChains.{share_chain}
use Rattle.cdf_edits.specs.Commands.Named.{is_attribute}
use Rattle.cdf_model.specs.DataSet.{Attribute}

same_by_kind : (kind other : EntryKind) (adr : ℕ) → is_same_chain (entries_chain other adr) (entries_chain kind adr) ≡ share_chain kind other
same_by_kind G G adr = eq-eqb adr adr refl
same_by_kind G R adr = eq-eqb adr adr refl
same_by_kind G Z adr = refl
same_by_kind R G adr = eq-eqb adr adr refl
same_by_kind R R adr = eq-eqb adr adr refl
same_by_kind R Z adr = refl
same_by_kind Z G adr = refl
same_by_kind Z R adr = refl
same_by_kind Z Z adr = eq-eqb adr adr refl

and_false : (p q : Bool) → (p ≡ true → q ≡ false) → (p && q) ≡ false
and_false true q f = f refl
and_false false q f = refl

pub on_other : {b attr : List ℕ} {kind : EntryKind} {n : ℕ} {chain : Chain} → FindsChain b attr kind n chain → (k : ℕ) (own : AttributeShape) (other : EntryKind) → slice_get (shape b).attributes k ≡ Some own → is_same_chain (entries_chain other own.adr) chain ≡ false
    → (is_attribute (content b) attr k && share_chain kind other) ≡ false
on_other {b} {attr} {kind} {n} {chain} found k own other at differ =
    subst (λ (o : Option (ℕ × Attribute)). (elim o [ None ↦ false | Some f ↦ f.0 == k ] && share_chain kind other) ≡ false) (sym found.named) (and_false (n == k) (share_chain kind other) not_shared)
  where
    not_shared : (n == k) ≡ true → share_chain kind other ≡ false
    not_shared e =
        let same : found.own ≡ own = same_Some found.own own (sym found.stands ∙ ap (slice_get (shape b).attributes) (eqb-true n k e) ∙ at) in
        let chain_is : chain ≡ entries_chain kind own.adr = found.chain_is ∙ ap (λ (a : AttributeShape). entries_chain kind a.adr) same in
        sym (same_by_kind kind other own.adr) ∙ subst (λ (c : Chain). is_same_chain (entries_chain other own.adr) c ≡ false) chain_is differ

-- two chains that are the same for the test are the same
pub same_chain : (one other : Chain) → is_same_chain one other ≡ true → one ≡ other
same_chain (GrEntries adr) (GrEntries with) e = ap GrEntries (eqb-true adr with e)
same_chain (ZEntries adr) (ZEntries with) e = ap ZEntries (eqb-true adr with e)
same_chain one other e = absurd cc
