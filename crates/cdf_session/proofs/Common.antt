-- The names that most proofs of this crate cite, passed on from one place. Declares nothing.
pub use Rattle.cdf_area.specs.Frame.{Frame, with_base}
pub use Rattle.cdf_area.specs.declared.area.AreaError.{AreaError}
pub use Rattle.cdf_attrs.specs.Known.{Known, Knows}
pub use Rattle.cdf_edits.proofs.Edits.VariableDeletionFollows.{delete_done, delete_refused}
pub use Rattle.cdf_edits.specs.Answers.{Answers, MovesIf, is_full}
pub use Rattle.cdf_edits.specs.Follows.{Follows}
pub use Rattle.cdf_format.proofs.GoodHead.{cdr_fits, few_dimensions, gdr_fits, image_fits, image_is_good, sizes_fit, version_is}
pub use Rattle.cdf_format.proofs.GoodSound.{good_by_its_shape, good_is_sound}
pub use Rattle.cdf_format.specs.Content.{content, head_by_fields, majority_of}
pub use Rattle.cdf_format.specs.Fields.{flags, gdr_offset, has_bit, r_num_dims, r_sizes, signed4, with_field, word}
pub use Rattle.cdf_format.specs.NewFile.{copyright, of_4_bytes, of_8_bytes}
unfoldable pub use Rattle.cdf_format.specs.NewFile.{new_image}
pub use Rattle.cdf_format.specs.Sealed.{has_checksum, image_of, trailer_length}
pub use Rattle.cdf_format.specs.Shape.{HasShape, shape}
pub use Rattle.cdf_format.specs.WellFormed.{Good, WellFormed}
pub use Rattle.cdf_model.specs.DataSet.{head_of}
pub use Rattle.cdf_model.specs.Limits.{image_limit}
pub use Rattle.cdf_model.specs.declared.answer.Outcome.TheVariants.{Done}
pub use Rattle.cdf_model.specs.declared.command.Command.TheVariants.{Attr, DelAttr, DelEntry, DelRecs, DelVar, PutEntry, PutRec, PutVal, RVar, Reindex, RenameAttr, RenameVar, SetBlocking, SetPad, SetSparse, Setup, ZVar}
pub use Rattle.cdf_records.specs.Heads.{cdr_at, gdr_at}
pub use Rattle.cdf_records.specs.declared.cdr.Cdr.{Cdr}
pub use Rattle.cdf_session.specs.Loading.{AreOf}
pub use Rattle.cdf_session.specs.Sessions.{Adopts, Begins, Explains, IsOpen}
pub use Rattle.cdf_vars.proofs.VariableFound.{Parts, none_found, the_parts}
pub use Rattle.std.proofs.Common.{Bool, Err, List, None, Ok, Result, Some, [], ap, append_assoc, arith, false, inl, inr, length, map, pos, refl, rules, subst, sym, take, true, ℕ, ◌&&◌, ◌*◌, ◌++◌, ◌+◌, ◌-◌, ◌<◌, ◌^◌, ◌∙◌, ◌∷◌, ◌≡◌, ◌≤◌}
pub use Rattle.std.proofs.Math.Path.{transport}
pub use Rattle.std.specs.Prelude.{IfOk, OnErr, OnOk, if◌then◌else◌, nat_lt, replicate}
