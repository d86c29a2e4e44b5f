-- The walk over what stands in a policy, form by form, and what an applied policy does there.
use Rattle.std.proofs.Common.{◌≡◌, refl, sym, ap, ◌∙◌, ℕ, suc, Bool, true, false, ◌||◌, Option, Some, None, ◌-◌, ◌<◌, ◌≤◌, List, [], ◌∷◌, ◌++◌, length, get_or, take, drop, slice_get, arith}
use Rattle.std.proofs.lemmas.List.{take_all}
use Rattle.std.proofs.lemmas.Option.{slice_get_within}
use Rattle.std.specs.Borrow.{Bor}
use Rattle.std.specs.Option.{option_map_or}
use Rattle.route_types.specs.Route.{RouteParts}
use Rattle.route_types.specs.declared.route.Outcome.{Outcome}
use Rattle.name_maps.specs.Under.{under}
use Rattle.rpl_forms.specs.declared.item.Apply.{Apply}
use Rattle.rpl_forms.specs.declared.item.Argument.{Argument}
use Rattle.rpl_forms.specs.declared.item.RplForm.{RplForm}
use Rattle.rpl_forms.specs.declared.item.RplItem.{RplItem}
use Rattle.rpl_tree.specs.Nesting.{Steps, Rest, nested}
use Rattle.rpl_tree.specs.Tree.{forms}
use Rattle.rpl_effects.specs.Changes.{route_behind, Has}
use Rattle.rpl_effects.specs.declared.effect.Changes.{Changes}
use Rattle.rpl_effects.specs.declared.effect.Effect.TheVariants.{GoesOn, Accepted, Rejected}
use Rattle.rpl_effects.specs.declared.kept.Found.{Found}
use Rattle.rpl_effects.specs.declared.kept.Levels.{Levels}
use Rattle.rpl_meaning.specs.Blocks.{WordMap, word_in}
use Rattle.rpl_meaning.specs.Communities.{stepped}
use Rattle.rpl_meaning.specs.Sets.{Bindings, unbound, handed, parameters_of, block_at, policy_named}
use Rattle.route_types.specs.declared.route.Outcome.TheVariants.{Accept}
use Rattle.rpl_meaning.specs.Meaning.{State, Fate, Goes, Ends, then_on, run_rest, run_policy, body_of, arriving, at_end, rpl_meaning}
use Rattle.rpl_meaning.specs.Runs.{Grew, fate_at, Covers, IsKnown, Learnt, IsFound, left_by, Leads, IsRun}
use Rattle.rpl_meaning.specs.Steps.{after, Does, running_in, called_in}
use Rattle.rpl_meaning.specs.Walk.{Run, Ending, Start, chosen, state_of}
use Rattle.rpl_meaning.specs.declared.communities.CommunityStep.{CommunityStep}
use Rattle.rpl_meaning.specs.declared.known.Known.{Known}
use Rattle.rpl_meaning.specs.declared.tests.World.{World}
use Rattle.rpl_meaning.specs.declared.walk.Mode.{Mode}
use Rattle.rpl_meaning.specs.declared.walk.Mode.TheVariants.{Running}
use Rattle.rpl_meaning.specs.declared.judge.Body.{Body}
use Rattle.rpl_meaning.specs.declared.judge.Next.{Next}
use Rattle.rpl_meaning.specs.declared.judge.Next.TheVariants.{On as NextOn, Ended as NextEnded}
use Rattle.rpl_meaning.specs.declared.judge.Turn.{Turn}
use Rattle.rpl_meaning.specs.declared.walk.Place.{Place}
use Rattle.rpl_meaning.specs.declared.walk.Step.{Step}
use Rattle.rpl_meaning.specs.declared.walk.Step.TheVariants.{On, Calls, Ended}
use Rattle.rpl_meaning.proofs.WalkLaws.{at_the_end}
use Rattle.rpl_meaning.proofs.StepLaws.{going}
use Rattle.rpl_meaning.proofs.KnownLaws.{from, grew_not, grew_more, get_below, fate_there, holds_kept, learnt_not, learnt_more, one_kept, run_alike}

-- what is left to run from here
abbrev pub coming : World → ℕ → Bindings → Mode → List RplItem → State → Fate
coming w levels bs mode items s = chosen (running_in w levels bs) mode (nested (forms items)) s

-- an item in front of what stands behind it
pub front : {A : Type 0} (rest : List A) (i : A) (n : ℕ) → 1 ≤ length rest → i ≡ get_or rest 0 i → n ≡ length rest - 1 → i ∷ take n (drop 1 rest) ≡ rest
front [] i n long is len = absurd (omega arith)
front {A} (y ∷ ys) i n long is len = ap (λ (x : A). x ∷ take n ys) is ∙ ap (λ (xs : List A). y ∷ xs) (take_all n ys (omega (arith, len)))

-- ---- what an `apply` comes to

or_assoc : (a b c : Bool) → ((a || b) || c) ≡ (a || (b || c))
or_assoc true b c = refl
or_assoc false b c = refl

module _ (go : Steps → State → Fate) (p : Start) (r : Rest) (place : ℕ) (before : Run) where
  -- the changes of the applied policy leave this route
  abbrev pub Behind : Changes CommunityStep → Changes CommunityStep → Type 0
  Behind c later = (route : RouteParts) → route_behind stepped p.table c route ≡ route_behind stepped (take place p.table) later (route_behind stepped p.table before.changes route)

  pub goes_behind : (run : Run) (c : Changes CommunityStep) (ticket : Bool) → slice_get p.table place ≡ Some (GoesOn run) → ticket ≡ (run.ticket || before.ticket) → (Has p.table place run.changes → Behind c run.changes)
      → left_by go p r (NextOn (record { mode = Running; run = record { ticket = ticket; changes = c } })) ≡ then_on (chosen go Running r) (fate_at p.table place (state_of p before))
  goes_behind run c ticket there is leaves =
      ap (λ (b : Bool). chosen go Running r (record { ticket = b; route = route_behind stepped p.table c p.state.route })) (ap (λ (b : Bool). b || p.state.ticket) is ∙ or_assoc run.ticket before.ticket p.state.ticket)
      ∙ ap (λ (x : RouteParts). chosen go Running r (record { ticket = run.ticket || (before.ticket || p.state.ticket); route = x })) (leaves (record { effect = GoesOn run; there = there; changes = refl }) p.state.route)
      ∙ ap (λ (f : Fate). then_on (chosen go Running r) f) (sym (fate_there p.table place (GoesOn run) (state_of p before) there))

  pub accepts_behind : (later c : Changes CommunityStep) → slice_get p.table place ≡ Some (Accepted later) → (Has p.table place later → Behind c later)
      → left_by go p r (NextEnded (Accepted c)) ≡ then_on (chosen go Running r) (fate_at p.table place (state_of p before))
  accepts_behind later c there leaves =
      ap (λ (x : RouteParts). Ends (Accept x)) (leaves (record { effect = Accepted later; there = there; changes = refl }) p.state.route)
      ∙ ap (λ (f : Fate). then_on (chosen go Running r) f) (sym (fate_there p.table place (Accepted later) (state_of p before) there))

  pub rejects_behind : slice_get p.table place ≡ Some Rejected → left_by go p r (NextEnded Rejected) ≡ then_on (chosen go Running r) (fate_at p.table place (state_of p before))
  rejects_behind there = ap (λ (f : Fate). then_on (chosen go Running r) f) (sym (fate_there p.table place Rejected (state_of p before) there))

-- ---- what a form comes to

pub on_leads : (w : World) (k : Known) (levels : ℕ) (bs : Bindings) (mode : Mode) (f : RplForm) (run : Run) (held : Levels) (x : Step) (place : Place) → IsKnown w k → x ≡ On place → Does w bs mode f run x
    → Leads w k k levels bs mode f run held (record { next = NextOn place; held = held })
on_leads w k levels bs mode f run held x place known is does = record {
  learnt = learnt_not w k known;
  covers = λ c. c;
  narrower = λ n c. c;
  leads = λ table g n c s r. sym (ap (λ (y : Step). after (running_in w n bs) (called_in w n bs) (from table s) r y) is) ∙ does (called_in w n bs) (from table s) r;
}

pub ended_leads : (w : World) (k : Known) (levels : ℕ) (bs : Bindings) (mode : Mode) (f : RplForm) (run : Run) (held : Levels) (x : Step) (e : Ending) → IsKnown w k → x ≡ Ended e → Does w bs mode f run x
    → Leads w k k levels bs mode f run held (record { next = NextEnded e; held = held })
ended_leads w k levels bs mode f run held x e known is does = record {
  learnt = learnt_not w k known;
  covers = λ c. c;
  narrower = λ n c. c;
  leads = λ table g n c s r. sym (ap (λ (y : Step). after (running_in w n bs) (called_in w n bs) (from table s) r y) is) ∙ does (called_in w n bs) (from table s) r;
}

-- the numbers of levels that are in both
pub record InBoth (one other both : Levels) : Type 0 where
  pub all : (n : ℕ) → Covers one n → Covers other n → Covers both n
  pub first : (n : ℕ) → Covers both n → Covers one n
  pub second : (n : ℕ) → Covers both n → Covers other n

there_more : (t u : List Ending) (place : ℕ) (e : Ending) → Grew t u → slice_get t place ≡ Some e → slice_get u place ≡ Some e
there_more t u place e g there = ap (λ (x : List Ending). slice_get x place) g.1 ∙ get_below t g.0 place (slice_get_within t place e there) ∙ there

pub calls_lead : (w : World) (k l : Known) (levels : ℕ) (bs : Bindings) (mode : Mode) (f : RplForm) (run before : Run) (held both : Levels) (x : Step) (a : Bor Apply) (found : Found) (e : Ending) (n : Next) → x ≡ Calls a before → Does w bs mode f run x
    → IsFound w k l levels (λ m s. called_in w m bs a.now s) found → slice_get l.effects.items found.place ≡ Some e → InBoth held found.levels both
    → ((go : Steps → State → Fate) (p : Start) (r : Rest) → slice_get p.table found.place ≡ Some e → left_by go p r n ≡ then_on (chosen go Running r) (fate_at p.table found.place (state_of p before)))
    → Leads w k l levels bs mode f run held (record { next = n; held = both })
calls_lead w k l levels bs mode f run before held both x a found e n is does ran there in_both behind = record {
  learnt = ran.learnt;
  covers = λ c. in_both.all levels c ran.covers;
  narrower = in_both.first;
  leads = λ table g m c s r.
      behind (running_in w m bs) (from table s) r (there_more l.effects.items table found.place e g there)
      ∙ ap (λ (z : Fate). then_on (chosen (running_in w m bs) Running r) z) ((holds_kept l.effects.items table (λ m s. called_in w m bs a.now s) found g ran.holds).runs m (in_both.second m c) (state_of (from table s) before))
      ∙ sym (ap (λ (y : Step). after (running_in w m bs) (called_in w m bs) (from table s) r y) is)
      ∙ does (called_in w m bs) (from table s) r;
}

-- nothing is left to run behind the last form
pub at_last : (w : World) (levels : ℕ) (bs : Bindings) (mode : Mode) (s : State) → coming w levels bs mode [] s ≡ Goes s
unfolding nested
at_last w levels bs mode s = at_the_end (going w bs (called_in w levels bs)) mode s

-- without a level of `apply`, a policy does nothing
pub no_level : (w : World) (n : ℕ) (bs : Bindings) (name : List ℕ) (s : State) → n ≡ 0 → Goes s ≡ run_policy n (forms w.items.now) w.route.now bs name s
unfolding run_policy
no_level w n bs name s e = sym (ap (λ (k : ℕ). run_policy k (forms w.items.now) w.route.now bs name s) e)

-- with one more level of `apply`, a policy is what stands in it
pub one_level : (w : World) (n m : ℕ) (bs : Bindings) (name : List ℕ) (s : State) → n ≡ suc m
    → run_policy n (forms w.items.now) w.route.now bs name s ≡ run_rest (running_in w m bs) (nested (body_of name (forms w.items.now))) s
unfolding run_policy
one_level w n m bs name s e = ap (λ (k : ℕ). run_policy k (forms w.items.now) w.route.now bs name s) e

-- ---- the walk over what stands in a policy: an item and those behind it

-- where the walk stands: what is left to run is what was to be run
pub record IsAlong (w : World) (before after : Known) (levels : ℕ) (bs : Bindings) (body rest : List RplItem) (run : Run) (mode : Mode) (held : Levels) : Type 0 where
  pub learnt : Learnt w before after
  pub covers : Covers held levels
  pub same : (table : List Ending) → Grew after.effects.items table → (n : ℕ) → Covers held n → (s : State) → coming w n bs mode rest (state_of (from table s) run) ≡ coming w n bs Running body s

pub at_first : (w : World) (k : Known) (levels : ℕ) (bs : Bindings) (body : List RplItem) (run : Run) (held : Levels) → IsKnown w k → Covers held levels → ((p : Start) → state_of p run ≡ p.state)
    → IsAlong w k k levels bs body body run Running held
at_first w k levels bs body run held known covers fresh = record {
  learnt = learnt_not w k known;
  covers = covers;
  same = λ table g n c s. ap (λ (x : State). coming w n bs Running body x) (fresh (from table s));
}

pub along : (w : World) (before k l : Known) (levels : ℕ) (bs : Bindings) (body rest : List RplItem) (run : Run) (mode : Mode) (held : Levels) (i : RplItem) (m : ℕ) (x : Turn) (place : Place)
    → IsAlong w before k levels bs body rest run mode held → 1 ≤ length rest → i ≡ get_or rest 0 i → m ≡ length rest - 1 → x.next ≡ NextOn place
    → Leads w k l levels bs mode i.form run held x → IsAlong w before l levels bs body (take m (drop 1 rest)) place.run place.mode x.held
unfolding nested
along w before k l levels bs body rest run mode held i m x place sofar long first len is leads = record {
  learnt = learnt_more w before k l sofar.learnt leads.learnt;
  covers = leads.covers sofar.covers;
  same = λ table g n c s.
      sym (ap (λ (y : Next). left_by (running_in w n bs) (from table s) (nested (forms (take m (drop 1 rest)))) y) is)
      ∙ leads.leads table g n c s (nested (forms (take m (drop 1 rest))))
      ∙ ap (λ (items : List RplItem). coming w n bs mode items (state_of (from table s) run)) (front rest i m long first len)
      ∙ sofar.same table (grew_more k.effects.items l.effects.items table leads.learnt.grew g) n (leads.narrower n c) s;
}

pub ended_along : (w : World) (before k l : Known) (levels : ℕ) (bs : Bindings) (body rest : List RplItem) (run : Run) (mode : Mode) (held : Levels) (i : RplItem) (m : ℕ) (x : Turn) (e : Ending)
    → IsAlong w before k levels bs body rest run mode held → 1 ≤ length rest → i ≡ get_or rest 0 i → m ≡ length rest - 1 → x.next ≡ NextEnded e
    → Leads w k l levels bs mode i.form run held x → IsRun w before l levels bs (forms body) (record { effect = e; levels = x.held })
unfolding nested
ended_along w before k l levels bs body rest run mode held i m x e sofar long first len is leads = record {
  learnt = learnt_more w before k l sofar.learnt leads.learnt;
  covers = leads.covers sofar.covers;
  runs = λ table g n c s.
      sym (ap (λ (y : Next). left_by (running_in w n bs) (from table s) (nested (forms (take m (drop 1 rest)))) y) is)
      ∙ leads.leads table g n c s (nested (forms (take m (drop 1 rest))))
      ∙ ap (λ (items : List RplItem). coming w n bs mode items (state_of (from table s) run)) (front rest i m long first len)
      ∙ sofar.same table (grew_more k.effects.items l.effects.items table leads.learnt.grew g) n (leads.narrower n c) s;
}

pub at_the_last : (w : World) (before k : Known) (levels : ℕ) (bs : Bindings) (body rest : List RplItem) (run : Run) (mode : Mode) (held : Levels) → IsAlong w before k levels bs body rest run mode held → length rest < 1
    → IsRun w before k levels bs (forms body) (record { effect = GoesOn run; levels = held })
at_the_last w before k levels bs body [] run mode held sofar short = record {
  learnt = sofar.learnt;
  covers = sofar.covers;
  runs = λ table g n c s. sym (at_last w n bs mode (state_of (from table s) run)) ∙ sofar.same table g n c s;
}
at_the_last w before k levels bs body (i ∷ rest) run mode held sofar short = absurd (omega arith)

-- the effect of what stands in a policy, behind those of the table
pub body_kept : (w : World) (before k l : Known) (levels : ℕ) (bs : Bindings) (name : List ℕ) (body : List RplForm) (b : Body) (held : Levels) (f : Found) → 0 < levels → IsRun w before k (levels - 1) bs body b → body ≡ body_of name (forms w.items.now)
    → Covers held levels → ((n : ℕ) → Covers held n → (0 < n) × Covers b.levels (n - 1)) → f ≡ record { place = length k.effects.items; levels = held } → l.effects.items ≡ k.effects.items ++ (b.effect ∷ []) → l.kept ≡ k.kept
    → IsFound w before l levels (λ n s. run_policy n (forms w.items.now) w.route.now bs name s) f
body_kept w before k l levels bs name body b held f some ran is covers less found made same =
    one_kept w before k l levels (λ n s. run_policy n (forms w.items.now) w.route.now bs name s) b.effect held f ran.learnt found made same covers
    (λ n c s.
    ran.runs k.effects.items (grew_not k.effects.items) (n - 1) (less n c).1 s
    ∙ ap (λ (fs : List RplForm). run_rest (running_in w (n - 1) bs) (nested fs) s) is
    ∙ sym (one_level w n (n - 1) bs name s (above n (less n c).0)))
  where
    above : (n : ℕ) → 0 < n → n ≡ suc (n - 1)
    above n h = omega arith

-- without a level of `apply` a policy does nothing
pub nothing_kept : (w : World) (k l : Known) (levels : ℕ) (bs : Bindings) (name : List ℕ) (run : Run) (f : Found) → IsKnown w k → levels ≡ 0 → ((p : Start) → state_of p run ≡ p.state)
    → f ≡ record { place = length k.effects.items; levels = record { least = 0; most = 0 } } → l.effects.items ≡ k.effects.items ++ (GoesOn run ∷ []) → l.kept ≡ k.kept
    → IsFound w k l levels (λ n s. run_policy n (forms w.items.now) w.route.now bs name s) f
nothing_kept w k l levels bs name run f known none fresh found made same =
    one_kept w k k l levels (λ n s. run_policy n (forms w.items.now) w.route.now bs name s) (GoesOn run) (record { least = 0; most = 0 }) f (learnt_not w k known) found made same (record { least = omega arith; most = omega (arith, none) })
    (λ n c s. ap (λ (x : State). Goes x) (fresh (from k.effects.items s)) ∙ no_level w n bs name s (zero_of n c))
  where
    zero_of : (n : ℕ) → Covers (record { least = 0; most = 0 }) n → n ≡ 0
    zero_of n c = omega (arith, c.most)

-- an applied policy runs with the words that are handed to it
pub applied_runs : (w : World) (levels : ℕ) (bs inner : Bindings) (a : Apply) (name : List ℕ) (parameters : List (List ℕ)) (given : List Argument) → name ≡ a.policy
    → parameters ≡ parameters_of (block_at policy_named name (forms w.items.now)) → given ≡ a.arguments → ((x : List ℕ) → inner x ≡ handed bs parameters given x)
    → (s : State) → run_policy levels (forms w.items.now) w.route.now inner name s ≡ called_in w levels bs a s
applied_runs w levels bs inner a name parameters given named ps gs words s =
    run_alike levels (forms w.items.now) w.route.now inner (handed bs parameters given) name s words
    ∙ ap (λ (qs : List (List ℕ)). run_policy levels (forms w.items.now) w.route.now (handed bs qs given) name s) ps
    ∙ ap (λ (hs : List Argument). run_policy levels (forms w.items.now) w.route.now (handed bs (parameters_of (block_at policy_named name (forms w.items.now))) hs) name s) gs
    ∙ ap (λ (n : List ℕ). run_policy levels (forms w.items.now) w.route.now (handed bs (parameters_of (block_at policy_named n (forms w.items.now))) a.arguments) n s) named

-- ---- the run of the named policy

-- a map in which nothing stands has the words of a policy that is not applied
pub no_words : (m : WordMap) → ((q : List ℕ) → under m q ≡ None) → (x : List ℕ) → word_in m x ≡ unbound x
no_words m none x = ap (λ (o : Option (Bor (List ℕ))). option_map_or (λ w. w.now) o []) (none x)

-- the run of the named policy
pub whole_run : (w : World) (items : List RplItem) (r : RouteParts) (bs : Bindings) (name : List ℕ) (k l : Known) (f : Found) (o : Outcome)
    → w.items.now ≡ items → w.route.now ≡ r → ((x : List ℕ) → bs x ≡ unbound x) → IsFound w k l 129 (λ n s. run_policy n (forms w.items.now) w.route.now bs name s) f → o ≡ at_end (fate_at l.effects.items f.place (arriving r)) → o ≡ rpl_meaning (forms items) name r
unfolding rpl_meaning
whole_run w items r bs name k l f o all arrived words found ends =
    ends
    ∙ ap (λ (x : Fate). at_end x)
    (found.holds.runs 129 found.covers (arriving r)
    ∙ ap (λ (is : List RplItem). run_policy 129 (forms is) w.route.now bs name (arriving r)) all
    ∙ ap (λ (x : RouteParts). run_policy 129 (forms items) x bs name (arriving r)) arrived
    ∙ run_alike 129 (forms items) r bs unbound name (arriving r) words)
