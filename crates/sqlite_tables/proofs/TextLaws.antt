-- What each text means under the whole schema. The kit's meaning of SQL is run on the text.
use Rattle.std.proofs.Common.{◌≡◌, ℕ, pos, negsuc, List, [], ◌∷◌, codes, false, None, Some, refl}
use Rattle.sqlite_value.specs.declared.keys.Collation.TheVariants.{Binary}
use Rattle.sqlite_value.specs.declared.keys.Key.{Key}
use Rattle.sqlite_value.specs.declared.value.Value.TheVariants.{Null, Int}
use Rattle.sqlite_value.specs.Keys.{ascending}
use Rattle.sqlite_sql.specs.Term.{Term, lit, col, op2}
use Rattle.sqlite_sql.specs.Query.{Query, inner, end}
use Rattle.sqlite_sql.specs.declared.ops.BinaryOp.TheVariants.{Compare}
use Rattle.sqlite_sql.specs.declared.ops.CompareOp.TheVariants.{Eq}
use Rattle.sqlite_schema.specs.declared.program.Program.{Program}
use Rattle.sqlite_schema.specs.declared.command.Source.TheVariants.{Values}
use Rattle.sqlite_schema.specs.declared.command.Conflict.TheVariants.{Abort}
use Rattle.sqlite_schema.specs.declared.command.Command.{Command}
use Rattle.sqlite_schema.specs.declared.command.Command.TheVariants.{Insert, InsertOr, Update, Delete, Select}
use Rattle.sqlite_tied.specs.Compute.{everything}
use Rattle.sqlite.specs.Listing.{understood, reads_listing}
use Rattle.sqlite.proofs.Callers.{IsPlain, command_of}
use Rattle.stock_keeper.specs.Changed.{current_version}
use Rattle.sqlite_tables.specs.Whole.{whole}
use Rattle.sqlite_tables.specs.Texts as texts

abbrev same : Term → Term → Term
same a b = op2 (Compare Eq Binary) a b

abbrev pub by_order : Term → Term × Key
by_order t = (t, ascending Binary)

abbrev pub alone : Query → Program
alone q = record { lets = []; body = q }

-- the rows of a table that pass the tests, as these terms
abbrev pub query_of : ℕ → List Term → List Term → List (Term × Key) → Query
query_of tree filter project order = record {
  from = inner tree end;
  filter = filter;
  group = None;
  project = project;
  distinct = false;
  collations = [];
  order = order;
  limit = lit (Int (negsuc 0));
  offset = lit (Int (pos 0));
}

abbrev pub insert_terms : List Term
insert_terms = col 0 0 ∷ lit Null ∷ col 0 1 ∷ []

pub insert_is : command_of (understood whole texts.insert_record) ≡ Insert 0 (Values insert_terms 3)
unfolding understood everything
insert_is = refl

pub insert_plain : IsPlain (understood whole texts.insert_record)
unfolding understood everything
insert_plain = (refl, refl)

abbrev pub put_terms : List Term
put_terms = lit Null ∷ col 0 0 ∷ col 0 1 ∷ col 0 2 ∷ col 0 3 ∷ col 0 4 ∷ []

abbrev pub put_tests : List Term
put_tests = same (col 1 0) (col 0 5) ∷ []

abbrev pub put_shown : List Term
put_shown = col 1 0 ∷ col 1 0 ∷ col 1 1 ∷ col 1 2 ∷ col 1 3 ∷ col 0 3 ∷ col 0 4 ∷ []

abbrev pub put_query : Query
put_query = query_of 1 put_tests put_shown []

pub put_is : command_of (understood whole texts.put_worth) ≡ InsertOr 1 Abort (Values put_terms 6) (record { target = Some (1 ∷ 2 ∷ 3 ∷ []); update = Some (alone put_query) } ∷ [])
unfolding understood everything
put_is = refl

pub put_plain : IsPlain (understood whole texts.put_worth)
unfolding understood everything
put_plain = (refl, refl)

abbrev pub remove_tests : List Term
remove_tests = same (col 1 1) (col 0 0) ∷ same (col 1 2) (col 0 1) ∷ same (col 1 3) (col 0 2) ∷ []

abbrev pub remove_terms : List Term
remove_terms = col 1 0 ∷ []

abbrev pub remove_query : Query
remove_query = query_of 1 remove_tests remove_terms []

pub remove_is : command_of (understood whole texts.remove_worth) ≡ Delete 1 (alone remove_query)
unfolding understood everything
remove_is = refl

pub remove_plain : IsPlain (understood whole texts.remove_worth)
unfolding understood everything
remove_plain = (refl, refl)

abbrev pub cover_tests : List Term
cover_tests = same (col 1 0) (lit (Int (pos 1))) ∷ []

abbrev pub cover_terms : List Term
cover_terms = col 1 0 ∷ col 1 0 ∷ lit Null ∷ col 1 2 ∷ col 0 0 ∷ []

abbrev pub cover_query : Query
cover_query = query_of 3 cover_tests cover_terms []

pub cover_is : command_of (understood whole texts.cover) ≡ Update 2 (alone cover_query)
unfolding understood everything
cover_is = refl

pub cover_plain : IsPlain (understood whole texts.cover)
unfolding understood everything
cover_plain = (refl, refl)

abbrev pub upgrade_tests : List Term
upgrade_tests = same (col 1 0) (lit (Int (pos 1))) ∷ same (col 1 2) (lit (Int (pos 1))) ∷ []

abbrev pub upgrade_terms : List Term
upgrade_terms = col 1 0 ∷ col 1 0 ∷ lit Null ∷ lit (Int current_version) ∷ col 1 3 ∷ []

abbrev pub upgrade_query : Query
upgrade_query = query_of 3 upgrade_tests upgrade_terms []

pub upgrade_is : command_of (understood whole texts.upgrade) ≡ Update 2 (alone upgrade_query)
unfolding understood everything
upgrade_is = refl

pub upgrade_plain : IsPlain (understood whole texts.upgrade)
unfolding understood everything
upgrade_plain = (refl, refl)

abbrev pub records_terms : List Term
records_terms = col 1 0 ∷ col 1 2 ∷ []

abbrev pub records_order : List (Term × Key)
records_order = by_order (col 1 0) ∷ []

abbrev pub records_query : Query
records_query = query_of 0 [] records_terms records_order

pub records_is : command_of (understood whole texts.select_records) ≡ Select (alone records_query) (codes "no" ∷ codes "body" ∷ [])
unfolding understood everything
records_is = refl

pub records_plain : IsPlain (understood whole texts.select_records) × (reads_listing whole texts.select_records ≡ false)
unfolding understood everything
records_plain = ((refl, refl), refl)

abbrev pub worths_terms : List Term
worths_terms = col 1 1 ∷ col 1 2 ∷ col 1 3 ∷ col 1 4 ∷ col 1 5 ∷ []

abbrev pub worths_order : List (Term × Key)
worths_order = by_order (col 1 1) ∷ by_order (col 1 2) ∷ by_order (col 1 3) ∷ []

abbrev pub worths_query : Query
worths_query = query_of 1 [] worths_terms worths_order

pub worths_is : command_of (understood whole texts.select_worths) ≡ Select (alone worths_query) (codes "voucher" ∷ codes "line" ∷ codes "side" ∷ codes "value" ∷ codes "share" ∷ [])
unfolding understood everything
worths_is = refl

pub worths_plain : IsPlain (understood whole texts.select_worths) × (reads_listing whole texts.select_worths ≡ false)
unfolding understood everything
worths_plain = ((refl, refl), refl)

abbrev pub scan_query : Query
scan_query = query_of 1 [] worths_terms []

pub scan_is : command_of (understood whole texts.scan_worths) ≡ Select (alone scan_query) (codes "voucher" ∷ codes "line" ∷ codes "side" ∷ codes "value" ∷ codes "share" ∷ [])
unfolding understood everything
scan_is = refl

pub scan_plain : IsPlain (understood whole texts.scan_worths) × (reads_listing whole texts.scan_worths ≡ false)
unfolding understood everything
scan_plain = ((refl, refl), refl)

abbrev pub head_terms : List Term
head_terms = col 1 2 ∷ col 1 3 ∷ []

abbrev pub head_order : List (Term × Key)
head_order = by_order (col 1 0) ∷ []

abbrev pub head_query : Query
head_query = query_of 3 [] head_terms head_order

abbrev pub head_command : Command
head_command = Select (alone head_query) (codes "version" ∷ codes "covered" ∷ [])

pub head_is : command_of (understood whole texts.select_head) ≡ head_command
unfolding understood everything
head_is = refl

pub head_plain : IsPlain (understood whole texts.select_head) × (reads_listing whole texts.select_head ≡ false)
unfolding understood everything
head_plain = ((refl, refl), refl)

abbrev pub whole_head_terms : List Term
whole_head_terms = col 1 0 ∷ col 1 2 ∷ col 1 3 ∷ []

abbrev pub whole_head_query : Query
whole_head_query = query_of 3 [] whole_head_terms head_order

pub whole_head_is : command_of (understood whole texts.select_whole_head) ≡ Select (alone whole_head_query) (codes "id" ∷ codes "version" ∷ codes "covered" ∷ [])
unfolding understood everything
whole_head_is = refl

pub whole_head_plain : IsPlain (understood whole texts.select_whole_head) × (reads_listing whole texts.select_whole_head ≡ false)
unfolding understood everything
whole_head_plain = ((refl, refl), refl)
