-- The two calls of a deletion together follow the command.
use Rattle.cdf_edits.proofs.Common.{AllKeep, Allowances, Answers, ByStep, DataSet, DeletesNamed, DeletesVariable, Done, DropsEntries, Found, Good, List, None, Option, Refuse, Refused, RemovesVariable, Says, Some, VariableShape, ap, content, del_var_changes, del_var_step, entries_for, freed_with_variable, gave, image_limit, length, no_index, owned, refl, same_Some, shape, shapes_of, slice_get, stays_all, subst, sym, variable_named, ℕ, ◌++◌, ◌∙◌, ◌≡◌, ◌≤◌}
use Rattle.cdf_edits.proofs.Edits.Common.{gone_by_giving, refused, all_kept, same_middle}
use Rattle.cdf_model.specs.declared.answer.Reason.TheVariants as reasons
use Rattle.cdf_model.specs.declared.answer.Reply.TheVariants as replies
use Rattle.cdf_model.specs.declared.command.Command.TheVariants as commands
use Rattle.cdf_edits.proofs.Edits.VariableDeleted.{attribute_follows, freed_deleted}
use Rattle.cdf_edits.proofs.Edits.VariableDeletion.{acts_deleted, good_deleted, goes_deleted, long_deleted, r_max_deleted}
use Rattle.cdf_edits.proofs.Edits.RemovedVariable.{takes, records_are, left_empty}

module _ {b mid now : List ℕ} {found : Found} (good : Good b) (drops : DropsEntries b found mid) (d : RemovesVariable mid now found.kind found.number) (name : List ℕ) (named : variable_named (content b) name ≡ Some found) where
  deletes : (v : VariableShape) → slice_get (shapes_of (shape b) found.kind) found.number ≡ Some v → DeletesVariable b now found v (gave b (entries_for b (shape b).attributes found ++ freed_with_variable d.own))
  deletes v at = record {
    acts_are = ap (λ (x : VariableShape). gave b (entries_for b (shape b).attributes found ++ freed_with_variable x)) (own_is v at);
    attributes = λ k a a' here there. attribute_follows good drops d k a a' here there;
    r_max_rec_is = r_max_deleted good drops d;
    freed = freed_deleted good drops d;
    emptied = subst (λ (x : VariableShape). Says now x.vdr no_index) (own_is v at) (left_empty drops.good d);
  }
    where
      own_is : (v : VariableShape) → slice_get (shapes_of (shape b) found.kind) found.number ≡ Some v → d.own ≡ v
      own_is v at = same_middle (shapes_of (shape b) found.kind) d.before d.own d.after (sym (drops.variables_are found.kind) ∙ d.unlinks.was) found.number d.count at

  does : DeletesNamed b now name (gave b (entries_for b (shape b).attributes found ++ freed_with_variable d.own))
  does other v is at =
      let same : found ≡ other = same_Some found other (sym named ∙ is) in
      subst (λ (x : Found). DeletesVariable b now x v (gave b (entries_for b (shape b).attributes found ++ freed_with_variable d.own))) same (deletes v (subst (λ (x : Found). slice_get (shapes_of (shape b) x.kind) x.number ≡ Some v) (sym same) at))

  pub delete_done : (limit : ℕ) → length b ≤ limit → length b ≤ image_limit → Answers limit b (commands.DelVar name) (Done replies.Plain) now
  delete_done limit fits short =
      let places = entries_for b (shape b).attributes found ++ freed_with_variable d.own in
      gone_by_giving limit b (commands.DelVar name) now places refl refl (ap ByStep (goes_deleted good drops d name named)) (good_deleted good drops d short) (long_deleted good drops d) (acts_deleted good drops d)
      (subst (λ (o : Option Found). AllKeep b now (elim o as (λ x. Allowances) [ None ↦ stays_all | Some f ↦ del_var_changes b (content b) (shape b) f ]) (gave b places) (owned b (shape b))) (sym named) (all_kept good drops d (takes drops.good d) (records_are drops.good d)))
      does fits

pub delete_refused : (limit : ℕ) (b name : List ℕ) → variable_named (content b) name ≡ None → Answers limit b (commands.DelVar name) (Refused reasons.NoSuchVar) b
delete_refused limit b name none = refused limit b (commands.DelVar name) reasons.NoSuchVar (ap ByStep (missing (content b) name none))
  where
    missing : (d : DataSet) (name : List ℕ) → variable_named d name ≡ None → del_var_step d name ≡ Refuse reasons.NoSuchVar
    missing d name e = rw e refl
