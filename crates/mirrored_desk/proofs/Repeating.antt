-- A response that is kept is the one to the same report later too, while as many records are covered.
use Rattle.std.proofs.Common.{◌≡◌, ◌≤◌, false, List, Option, Some, None, length, sym, ap, ◌∙◌, arith, inl, inr, ⊎_elim}
use Rattle.std.specs.Prelude.{Bool, IfSome}
use Rattle.turn_lock.proofs.Lists.{begins_self, begins_whole}
use Rattle.stock_model.specs.declared.answers.Answer.TheVariants.{Shown}
use Rattle.stock_model.specs.declared.queries.Query.{Query}
use Rattle.stock_model.specs.declared.queries.Selected.{Selected}
use Rattle.stock_model.specs.declared.records.Record.{Record}
use Rattle.stock_nums.specs.declared.numbers.RecordNo.{RecordNo}
use Rattle.mirrored_sessions.specs.Steps.{selected_of}
use Rattle.desk_server.specs.Responding.{bytes_of, IsResponse}
use Rattle.desk_server.specs.Responses.{response_to}
use Rattle.desk_server.specs.declared.responding.Response.{Response}
use Rattle.desk_server.specs.declared.responding.Response.TheVariants.{Text, NoMemory}
use Rattle.mirrored_desk.specs.Kept.{IsKept, IsRepeated}
use Rattle.mirrored_desk.specs.declared.last_report.LastReport.{LastReport}

-- so many records were read, and the report that is kept is of as many, which they begin with: it is of these
module _ (read : List Record) (query : Query) (selected : Selected) (is : selected ≡ selected_of read query) where
  covers-read : selected.covered.0 ≡ length read
  covers-read = ap (λ (s : Selected). s.covered.0) is

  pub repeated-is : (last : Option LastReport) (close : Bool) (response : Response) → IsKept read last
      → IsRepeated last query selected.covered.0 close response → IsResponse (Shown query selected) close response
  repeated-is None close response kept repeated = absurd repeated
  repeated-is (Some last) close response kept repeated =
      let report = kept.2 in
      let no_longer : length read ≤ length kept.0 = omega (arith, covers-read, report.covers, repeated.1) in
      let same : kept.0 ≡ read = begins_whole kept.0 read kept.1 no_longer in
      ⊎_elim
      (λ (text : response ≡ Text last.response). inl (ap bytes_of text ∙ report.response_is
      ∙ (λ i. response_to (Shown (repeated.0 i) (selected_of (same i) (repeated.0 i))) (sym repeated.2 i))
      ∙ ap (λ (s : Selected). response_to (Shown query s) close) (sym is)))
      (λ (none : response ≡ NoMemory false). inr (none ∙ ap NoMemory (sym repeated.2)))
      repeated.3

  -- what is kept of a response is that report
  pub kept-is : (last : Option LastReport) (asked : Query) (other : Selected) (close : Bool) (response : Response)
      → Shown query selected ≡ Shown asked other → IsResponse (Shown query selected) close response
      → IfSome last (λ l. (l.query ≡ asked) × (l.covered ≡ selected.covered) × (response ≡ Text l.response) × (close ≡ false))
      → IsKept read last
  kept-is None asked other close response shows responds of = tt
  kept-is (Some last) asked other close response shows responds of =
      let query_is : query ≡ asked = cc in (
        read,
        begins_self read,
        record {
          covers = ap (λ (n : RecordNo). n.0) of.1 ∙ covers-read;
          response_is =
              ⊎_elim
              (λ (text : bytes_of response ≡ response_to (Shown query selected) close).
              ap bytes_of (sym of.2) ∙ text ∙ ap (λ (s : Selected). response_to (Shown query s) close) is
              ∙ (λ i. response_to (Shown ((query_is ∙ sym of.0) i) (selected_of read ((query_is ∙ sym of.0) i))) (of.3 i)))
              (λ (none : response ≡ NoMemory close). let differ : Text last.response ≡ NoMemory close = sym of.2 ∙ none in cc)
              responds;
        },
      )
