-- What `reindex` answers, of a variable whose descriptor was found.
use Rattle.cdf_vars.proofs.Common.{Answers, ByStep, DataSet, Done, Found, Good, In, IsVdr, Kind, Known, Knows, List, Refused, Reindexed, Some, Variable, VariableShape, ap, arith, at, content, gone, got-middle, image_limit, in_middle, index_at, index_is, inl, inr, length, map, number, own, refl, reindex_room, room, shape, slice_get, subst, sym, too_large, variable_named, variables, variables_of, vdr_vxr_head, vdrs, ℕ, ◌+◌, ◌<◌, ◌∙◌, ◌≡◌, ◌≤◌}
use Rattle.cdf_model.specs.declared.answer.Reason.TheVariants as reasons
use Rattle.cdf_model.specs.declared.answer.Reply.TheVariants as replies
use Rattle.cdf_model.specs.declared.command.Command.TheVariants as commands
use Rattle.cdf_index.specs.Sizes.{size_of}
use Rattle.cdf_index.specs.declared.measuring.IndexSize.{IndexSize}
use Rattle.cdf_reindex.proofs.MadeFollows.{goes_by, reindexed_content, reindexed_follows, reindexed_places, room_is}
use Rattle.cdf_reindex.proofs.PyramidBuilt.{few_leaves}
use Rattle.cdf_vars.proofs.RemovalAnswers.{has_index, vdr_among}
use Rattle.cdf_vars.proofs.VariableFound.{knows_now}

-- the leaves that were counted are few
pub few_counted : {b x : List ℕ} → Good b → x ≡ b → (vdr : ℕ) → {head : ℕ} → head ≡ number b vdr vdr_vxr_head → In vdr (vdrs (variables (shape b))) → (size : IndexSize) → size ≡ size_of (index_at x head) → size.leaves ≤ 2147483648
few_counted {x = x} good same vdr {head = head} head_is i size size_is = subst (λ (n : ℕ). n ≤ 2147483648) (sym (ap (λ (y : IndexSize). y.leaves) size_is)) (few_leaves (index_at x head) (has_index good same vdr head_is i).order)

pub vdr_in : {b : List ℕ} {kind : Kind} {vdr : ℕ} → IsVdr b kind vdr → In vdr (vdrs (variables (shape b)))
vdr_in {b} {kind} {vdr} v = vdr_among kind (shape b) vdr (subst (λ (vs : List VariableShape). In vdr (vdrs vs)) (sym v.was) (in_middle v.before (record v.own { vdr = vdr }) v.after))

module _ {b : List ℕ} (name : List ℕ) {kind : Kind} {vdr : ℕ} {x : Variable} (good : Good b) (v : IsVdr b kind vdr)
    (named : variable_named (content b) name ≡ Some (record { kind = kind; number = length v.before; variable = x })) {need : ℕ} (need_is : need ≡ reindex_room (index_at b (number b vdr vdr_vxr_head))) (limit : ℕ) where
  abbrev mine : Found
  mine = record { kind = kind; number = length v.before; variable = x }

  needed : room b (commands.Reindex name) ≡ need
  needed = room_is b name mine named (ap (λ (vs : List VariableShape). slice_get vs (length v.before)) v.was ∙ got-middle v.before (own good v) v.after) ∙ ap reindex_room (sym (index_is good v)) ∙ sym need_is

  pub over : limit < length b + need → Answers limit b (commands.Reindex name) (Refused reasons.TooLarge) b
  over full = too_large limit b (commands.Reindex name) (content b) replies.Plain (ap ByStep (goes_by (content b) name mine named)) (rw needed full)

  module _ {now : List ℕ} (fits : length b + need ≤ limit) (short : limit ≤ image_limit) (made : Reindexed b now (own good v)) where
    long : length now ≤ image_limit
    long =
        let room : need ≡ reindex_room (own good v).index = need_is ∙ ap reindex_room (index_is good v) in
        elim made [ inl y ↦ omega (arith, ap length y.1) | inr y ↦ omega (arith, y.1.longest, room) ]

    pub answers_done : Answers limit b (commands.Reindex name) (Done replies.Plain) now
    answers_done =
        gone limit b (commands.Reindex name) (content b) replies.Plain now (ap ByStep (goes_by (content b) name mine named)) (rw needed fits)
        (reindexed_follows mine name good (at good v) refl named long made)

    pub known_done : {known : Known} → Knows b known → Knows now known
    known_done knows =
        let means = reindexed_content mine name good (at good v) refl named long made in
        knows_now knows (λ (k : Kind). ap (λ (d : DataSet). map (λ (w : Variable). w.name) (variables_of d k)) (sym means)) (λ (k : Kind). sym (reindexed_places mine name good (at good v) refl named long made k))
