-- What a service does, by what its worker, its desks and the ends of its locks tell.
use Rattle.std.proofs.Common.{◌≡◌, ℕ, ◌+◌, ◌<◌, ◌≤◌, ⊎_elim, Option, List, [], ◌++◌, length, map, sym, ap, ◌∙◌, subst, arith}
use Rattle.std.specs.Prelude.{All, Bool, true}
use Rattle.std.proofs.lemmas.Bool.{cases_lt}
use Rattle.std.proofs.lemmas.List.{length-map}
use Rattle.std.proofs.lemmas.List.Elements.{All-weaker}
use Rattle.atomic_table.specs.Seated.{TableId}
use Rattle.turn_lock.specs.Histories.{BeginsWith, past, made_by}
use Rattle.turn_lock.specs.Passes.{PassView}
use Rattle.turn_lock.specs.Views.{opened}
use Rattle.turn_lock.specs.declared.view.Start.{Start}
use Rattle.turn_lock.specs.declared.view.View.{View}
use Rattle.turn_lock.proofs.Lists.{begins_self, begins_through, past_self}
use Rattle.stock_model.specs.History.{covered_records, IsLegal}
use Rattle.stock_model.specs.Run.{ArePublications}
use Rattle.stock_model.specs.declared.deeds.Deed.{Deed}
use Rattle.stock_model.specs.declared.records.Record.{Record}
use Rattle.stock_io.specs.Heard.{Heard}
use Rattle.session_laws.specs.Sessions.{Served}
use Rattle.mirrored_sessions.specs.Steps.{turned_in, IsReading}
use Rattle.mirrored_sessions.specs.Steps as steps
use Rattle.session_laws.specs.Makers.{with_makers, without_makers, deeds_by}
use Rattle.session_laws.proofs.MakersOf.{without_makers-with_makers, without_makers-begins, past-with_makers, made_by-with_makers}
use Rattle.repost_build.specs.declared.build.Build.{Build}
use Rattle.repost_worker.specs.Turns.{IsWorkOf}
use Rattle.locked_worker.proofs.GatedRuns.{publishes-turns}
use Rattle.mirrored_worker.proofs.Covering.{covered-grows}
use Rattle.mirrored_worker.proofs.MirroredRuns.{Leads, leads-shown}
use Rattle.shared_listener.specs.Visits.{visits_to, IsVisited}
use Rattle.shared_listener.specs.declared.step.Step.{Step}
use Rattle.shared_listener.proofs.Listening.{closed_of}
use Rattle.shared_listener.proofs.Visiting.{Accepts-visited, HangsUp-visited}
use Rattle.desk_connections.specs.Visits.{learnt, Visit, IsVisit, AreSessions, all_steps}
use Rattle.desk_connections.proofs.Visiting.{Session-all, all_served, all_read, none_fewer}
use Rattle.desk_service.specs.Desks.{Work}
use Rattle.desk_service.specs.Endings.{IsClosed}
use Rattle.desk_service.specs.Passes.{passes_from}
use Rattle.desk_service.specs.Service.{AreServedBy, IsService, total_to}
use Rattle.desk_service.specs.Teams.{IsTeamwork}
use Rattle.desk_service.proofs.AtWork.{All-unmap, All-two, attends, passes_down, passes_of_lock, ways_of_lock, visits_at, At, at}
use Rattle.desk_service.proofs.Ended.{IsNew, are_new, made_zero, made_other, made_later, counted}
use Rattle.desk_service.proofs.Coming.{none_unbegun}
use Rattle.desk_service.proofs.Gathering.{made_in, count_in, numbers, IsDown}
use Rattle.desk_service.proofs.KeptReports.{KeepsSelected, exchanges-keep}
use Rattle.desk_service.proofs.ReadReports.{steps-keep}
use Rattle.desk_service.proofs.Revaluing.{Owns, own-turns, work-final}
use Rattle.desk_service.proofs.SplitOff.{passes_from-length}

module _ {L P : Type 0} (left : P → Option (List ℕ)) (taken : P → ℕ) (written : P → Option (List ℕ)) (faults : P → ℕ) (ended : P → Bool) where
  -- the locks of passes of which none was made before
  module _ {E : Type 0} (lock : TableId) (known : View E) (count : ℕ) (passes : List (PassView E)) (f : Work L P → PassView E) (works : List (Work L P))
      (are : passes ≡ passes_from lock known 1 count) (before : passes ≡ map f works) where
    pub as_many : length works ≡ count
    as_many = sym (length-map works f) ∙ ap length (sym before ∙ are) ∙ passes_from-length lock known 1 count

    pub all_new : All (λ work. IsNew lock known.seen (f work)) works
    all_new = All-unmap f (IsNew lock known.seen) works (subst (All (IsNew lock known.seen)) (sym are ∙ before) (are_new lock known 1 count))

    pub all_of_lock : All (λ work. (f work).lock ≡ lock) works
    all_of_lock =
        All-weaker (λ (w : Work L P). IsNew lock known.seen (f w)) (λ (w : Work L P). (f w).lock ≡ lock) (λ w new. new.of_lock) works all_new

  -- pass 0 of a lock round this history was split, and a team went to work
  module _ (lock : TableId) (first : List Deed) (count_of_faults count : ℕ) (noted : Start) (pass : PassView Deed) (build : Build)
      (shown : List Record) (pass' : PassView Deed) (build' : Build) (shown' : List Record) (passes passes' : List (PassView Deed))
      (reads reads' : List (List Record)) (ways ways' : List (PassView (Step L P)))
      (split : pass.view ≡ record (opened (with_makers first) count_of_faults noted) { split = count })
      (are : passes ≡ passes_from lock (opened (with_makers first) count_of_faults noted) 1 count)
      (team : IsTeamwork (attends left taken written faults ended) pass build shown pass' build' shown' passes passes' reads reads' ways ways')
    where
      view_is : pass'.view ≡ record pass.view { seen = pass'.view.seen; seen_faults = pass'.view.seen_faults; made = pass'.view.made; stops = pass'.view.stops; faults = pass'.view.faults }
      view_is = team.worked.rest

      pub zero_is : pass'.view.number ≡ 0
      zero_is = ap (λ (v : View Deed). v.number) view_is ∙ ap (λ (v : View Deed). v.number) split

      pub none_joined : pass'.view.joined ≡ []
      none_joined = ap (λ (v : View Deed). v.joined) view_is ∙ ap (λ (v : View Deed). v.joined) split

      pub start_is : pass'.view.start ≡ noted
      start_is = ap (λ (v : View Deed). v.start) view_is ∙ ap (λ (v : View Deed). v.start) split

      first_is : pass'.view.first ≡ with_makers first
      first_is = ap (λ (v : View Deed). v.first) view_is ∙ ap (λ (v : View Deed). v.first) split

      abbrev known : View Deed
      known = opened (with_makers first) count_of_faults noted

      pub works_count : length team.serving.works ≡ count
      works_count = as_many lock known count passes (λ w. w.pass) team.serving.works are team.serving.before

      pub passes_count : length passes' ≡ count
      passes_count = ap length team.serving.after ∙ length-map team.serving.works (λ (w : Work L P). w.pass_then) ∙ works_count

      pub ways_count : length ways' ≡ count
      ways_count = ap length team.serving.ways_after ∙ length-map team.serving.works (λ (w : Work L P). w.way_then) ∙ works_count

      pub split_is : pass'.view.split ≡ length passes'
      split_is = ap (λ (v : View Deed). v.split) view_is ∙ ap (λ (v : View Deed). v.split) split ∙ sym passes_count

      new_ones : All (λ work. IsNew lock (with_makers first) work.pass) team.serving.works
      new_ones = all_new lock known count passes (λ w. w.pass) team.serving.works are team.serving.before

      pub of_lock : All (λ other. other.lock ≡ lock) passes'
      of_lock =
          let s = team.serving in
          subst (All (λ (p : PassView Deed). p.lock ≡ lock)) (sym s.after)
          (passes_of_lock left taken written faults ended 1 lock s.works s.attended
          (all_of_lock lock known count passes (λ w. w.pass) s.works are s.before))

      pub of_way_lock : (way_lock : TableId) (way : View (Step L P)) → ways ≡ passes_from way_lock way 1 count → All (λ other. other.lock ≡ way_lock) ways'
      of_way_lock way_lock way ways_are =
          let s = team.serving in
          subst (All (λ (p : PassView (Step L P)). p.lock ≡ way_lock)) (sym s.ways_after)
          (ways_of_lock left taken written faults ended 1 way_lock s.works s.attended
          (all_of_lock way_lock way count ways (λ w. w.way) s.works ways_are s.ways_before))

      down : IsDown 1 count (numbers passes')
      down =
          let s = team.serving in
          subst (λ (z : List (PassView Deed)). IsDown 1 count (numbers z)) (sym s.after)
          (subst (λ (n : ℕ). IsDown 1 n (numbers (map (λ (w : Work L P). w.pass_then) s.works))) works_count
          (passes_down left taken written faults ended 1 s.works s.attended))

      -- turns without a mirror lead there too
      leads : Leads pass.view build pass'.view build'
      leads = leads-shown team.worked.results pass.view build shown pass'.view build' shown' team.worked.turns

      owns : Owns (with_makers first) pass'.view
      owns =
          own-turns (with_makers first) leads.results pass.view build pass'.view build'
          (subst (Owns (with_makers first)) (sym split)
          (record { begins = begins_self (with_makers first); own = ap (made_by 0) (past_self (with_makers first)) }))
          leads.turns

      -- the lock of the book ended
      module _ (final : List Deed) (faults' : ℕ) (closed : IsClosed pass'.view passes' (with_makers final) faults') where
        since_first : (k : ℕ) → made_by k (past (with_makers first) (with_makers final)) ≡ made_by k (past pass'.view.first (with_makers final))
        since_first k = ap (λ (z : List (ℕ × Deed)). made_by k (past z (with_makers final))) (sym first_is)

        deeds_are : (k : ℕ) (more : List Deed) → made_by k (past (with_makers first) (with_makers final)) ≡ with_makers more
            → deeds_by k (past first final) ≡ more
        deeds_are k more is =
            sym (without_makers-with_makers (deeds_by k (past first final)))
            ∙ ap without_makers (sym (ap (made_by k) (past-with_makers first final) ∙ made_by-with_makers k (past first final)) ∙ is)
            ∙ without_makers-with_makers more

        own_made : made_by 0 (past (with_makers first) (with_makers final)) ≡ pass'.view.made
        own_made = since_first 0 ∙ made_zero pass'.view passes' (with_makers final) faults' count closed zero_is none_joined down

        pub work_is : IsWorkOf final build'
        work_is = work-final (with_makers first) pass'.view final build' owns closed.saw_own own_made team.worked.work

        published : ArePublications (deeds_by 0 (past first final))
        published =
            let run = publishes-turns leads.results pass.view build pass'.view build' leads.turns in
            let mine : pass'.view.made ≡ with_makers run.more =
            run.made ∙ ap (λ (v : View Deed). v.made ++ with_makers run.more) split
            in
            subst ArePublications (sym (deeds_are 0 run.more (own_made ∙ mine))) run.publications_are

        no_others : (k : ℕ) → count < k → deeds_by k (past first final) ≡ []
        no_others k later =
            deeds_are k []
            (since_first k ∙ made_later pass'.view passes' (with_makers final) faults' count closed zero_is none_joined down k later)

        grows : BeginsWith final first
        grows =
            subst (λ (z : List Deed × List Deed). BeginsWith z.0 z.1)
            (λ i. (without_makers-with_makers final i, without_makers-with_makers first i))
            (without_makers-begins (with_makers final) (with_makers first)
            (subst (λ (z : List (ℕ × Deed)). BeginsWith (with_makers final) z) first_is closed.begins))

        among : count_of_faults + total_to count (λ k. count_in k passes') ≤ faults'
        among =
            omega (
              arith,
              counted pass'.view passes' (with_makers final) faults' count closed zero_is none_joined down,
              ap (λ (v : View Deed). v.first_faults) view_is,
              ap (λ (v : View Deed). v.first_faults) split,
            )

        module _ (legal : IsLegal final) (law : KeepsSelected) (met : All (λ read. BeginsWith shown' read) reads') where
          -- what is shown last was published, and is still covered
          covers_shown : BeginsWith (covered_records final) shown'
          covers_shown =
              begins_through shown' (covered_records (without_makers pass'.view.seen)) (covered_records final) team.worked.published
              (covered-grows (without_makers pass'.view.seen) final legal
              (subst (λ (h : List Deed). BeginsWith h (without_makers pass'.view.seen)) (without_makers-with_makers final)
              (without_makers-begins (with_makers final) pass'.view.seen closed.saw_own)))

          -- what is known of each desk's pass and reader
          record Facts (work : Work L P) : Type 0 where
            is_new : IsNew lock (with_makers first) work.pass
            ends : BeginsWith (with_makers final) work.pass_then.view.seen
            no_more : work.pass_then.view.seen_faults ≤ faults'
            covers : BeginsWith (covered_records final) work.read_then

          facts : All Facts team.serving.works
          facts =
              let s = team.serving in
              let then = λ (w : Work L P). w.pass_then in
              let read = λ (w : Work L P). w.read_then in
              let ends = λ (p : PassView Deed). BeginsWith (with_makers final) p.view.seen in
              let no_more = λ (p : PassView Deed). p.view.seen_faults ≤ faults' in
              let shows = λ (r : List Record). BeginsWith shown' r in
              let ended_all = All-unmap then ends s.works (subst (All ends) s.after closed.saw_all) in
              let counted_all = All-unmap then no_more s.works (subst (All no_more) s.after closed.counted_all) in
              let met_all = All-unmap read shows s.works (subst (All shows) s.reads_after met) in
              All-weaker
              (λ (w : Work L P). IsNew lock (with_makers first) w.pass × (ends w.pass_then × (no_more w.pass_then × shows w.read_then))) Facts
              (λ (w : Work L P) all. record {
                is_new = all.0;
                ends = all.1.0;
                no_more = all.1.1.0;
                covers = begins_through w.read_then shown' (covered_records final) all.1.1.1 covers_shown;
              }) s.works
              (All-two (λ (w : Work L P). IsNew lock (with_makers first) w.pass)
              (λ (w : Work L P). ends w.pass_then × (no_more w.pass_then × shows w.read_then)) s.works new_ones
              (All-two (λ (w : Work L P). ends w.pass_then) (λ (w : Work L P). no_more w.pass_then × shows w.read_then) s.works ended_all
              (All-two (λ (w : Work L P). no_more w.pass_then) (λ (w : Work L P). shows w.read_then) s.works counted_all met_all)))

          served_at : (k : ℕ) → 0 < k → k ≤ count
              → AreServedBy left taken written faults ended k (count_in k passes') faults' first final
              (visits_at left taken written faults ended 1 k team.serving.works team.serving.attended)
          served_at k some within =
              let s = team.serving in
              let r : At left taken written faults ended 1 Facts k s.works s.attended =
              at left taken written faults ended 1 Facts k s.works s.attended facts (omega (arith, some)) (omega (arith, within, works_count)) in
              let is_visit = IsVisit left taken written faults ended r.desk in
              let old = learnt r.work.pass.view r.work.read in
              let new = learnt r.work.pass_then.view r.work.read_then in
              let visits = r.did.served.visits in
              let deeds = made_by r.desk (past (with_makers first) (with_makers final)) in
              let made : deeds ≡ new.view.made =
              ap (λ (n : ℕ). made_by n (past (with_makers first) (with_makers final))) r.desk_is ∙ since_first k
              ∙ made_other pass'.view passes' (with_makers final) faults' count closed zero_is none_joined down k some
              ∙ ap (made_in k) s.after ∙ r.made in
              let shared : (sessions : List (List steps.Step)) → AreSessions r.desk visits sessions
              → Served r.desk first final (turned_in (all_steps sessions)) =
              λ sessions sure. all_served is_visit r.desk first final old new visits sessions r.did.served.lead sure
              (subst (λ (z : List (ℕ × Deed)). BeginsWith z (with_makers first)) (sym r.facts.is_new.saw) (begins_self (with_makers first))) r.facts.ends
              (sym (ap (λ (z : List (ℕ × Deed)). z ++ deeds) r.facts.is_new.nothing ∙ made)) in
              let readings : (sessions : List (List steps.Step)) → AreSessions r.desk visits sessions
              → All (IsReading (covered_records final)) (all_steps sessions) =
              λ sessions sure. all_read is_visit r.desk (covered_records final) old new visits sessions r.did.served.lead sure r.facts.covers in
              let done : AreServedBy left taken written faults ended r.desk new.view.faults faults' first final visits = record {
                old = old;
                new = new;
                lead = r.did.served.lead;
                shared = shared;
                readings = readings;
                no_fewer = λ sessions sure. none_fewer is_visit r.desk visits sessions sure;
                keeps = λ sessions sure.
                    steps-keep final legal law (all_steps sessions)
                    (exchanges-keep law r.desk final legal first (turned_in (all_steps sessions)) (shared sessions sure)) (readings sessions sure);
                failed = λ sessions sure below_end.
                    let told = (Session-all is_visit r.desk old new visits sessions r.did.served.lead sure).failed (omega (arith, r.facts.no_more, below_end)) in
                    omega (arith, told);
              } in
              let counts : new.view.faults ≡ count_in k passes' = sym (ap (count_in k) s.after ∙ r.count) in
              subst (λ (z : ℕ × ℕ × List (Visit P)). AreServedBy left taken written faults ended z.0 z.1 faults' first final z.2)
              (λ i. (r.desk_is i, counts i, sym r.visits_are i)) done

          -- the lock of the listener ended: these are the visits to desks
          module _ (is_fresh : P → Type 0) (wanted : ℕ) (old new : Heard P) (is_told : ℕ → Bool) (accepted : ℕ)
              (visited : IsVisited (λ visit. visit.peer) (λ visit. visit.peer_then) is_fresh count wanted
              (λ k. visits_at left taken written faults ended 1 k team.serving.works team.serving.attended) is_told old new)
              (told : is_told 1 ≡ true) (count_is : accepted ≡ length visited.came)
              (within : All (λ visit. (0 < visit.0) × (visit.0 ≤ count)) visited.came) where
            came_to : (k : ℕ) → 0 < k → k ≤ count → AreServedBy left taken written faults ended k (count_in k passes') faults' first final (visits_to k visited.came)
            came_to k some few =
                subst (AreServedBy left taken written faults ended k (count_in k passes') faults' first final) (sym (visited.to_each k)) (served_at k some few)

            unbegun : (k : ℕ) → accepted < k → deeds_by k (past first final) ≡ []
            unbegun k behind =
                ⊎_elim (no_others k)
                (λ (few : k ≤ count).
                let none : visits_to k visited.came ≡ [] =
                none_unbegun count visited.came visited.in_order k (omega (arith, behind, count_is)) few in
                ((subst (AreServedBy left taken written faults ended k (count_in k passes') faults' first final) none
                (came_to k (omega (arith, behind)) few)).shared [] tt).kept)
                (cases_lt count k)

            pub service_is : IsService (AreServedBy left taken written faults ended) is_fresh count wanted accepted first final count_of_faults faults' old new
            service_is = record {
              closed = closed_of old new;
              came = visited.came;
              went = visited.left;
              counts = λ k. count_in k passes';
              count = count_is;
              accepts = Accepts-visited (λ (visit : Visit P). visit.peer) (λ (visit : Visit P). visit.peer_then) is_fresh count wanted _ is_told old new visited 1 told;
              to_desks = within;
              in_order = visited.in_order;
              served = came_to;
              all_went = visited.all_left;
              went_in_turn = λ k. visited.left_each k ∙ sym (visited.to_each k);
              hung_up = HangsUp-visited (λ (visit : Visit P). visit.peer) (λ (visit : Visit P). visit.peer_then) is_fresh count wanted _ is_told old new visited;
              grows = grows;
              legal = legal;
              published = published;
              among = among;
              no_others = no_others;
              none_unbegun = unbegun;
            }
