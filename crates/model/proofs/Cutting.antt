-- A machine that reads a stream in pieces: in any cuts it gives what it gives on the whole.
use Prim.Native.Nat.{ℕ, zero, suc, ◌+◌, ◌≤◌, ◌<◌}
use native.Mathlib.Omega.{arith}
use mathlib.Core.Path.{◌≡◌, refl, sym, ap, subst, ◌∙◌}
use mathlib.Core.List.{List, [], ◌∷◌, ◌++◌, map, map-append, flatten}
use mathlib.Core.Bool.{Bool, true, false, cond}
use lib.ListN.{length, take, drop, length-map, length-drop, take-append-drop}
use Rattle.ground.specs.Tests.{pick, by_test}
use Rattle.model.specs.Machine.{Fed, Note, Ran, Piece, feed, idle, before, empty, drain, drain_all}
use Rattle.model.specs.Cut.{step_all, put_all}

-- the two branches, each equal where it is taken
pick_same : {A : Type 0} (c : Bool) {x x' y y' : A} → (c ≡ true → x ≡ x') → (c ≡ false → y ≡ y') → pick c x y ≡ pick c x' y'
unfolding pick
pick_same true f g = f refl
pick_same false f g = g refl

-- What is asked of a machine: `hungry` is the one quiet event that is judged, and saying it changes nothing.
pub record Lawful {St Ev B : Type 0} (judge : St → Ev) (after : St → Ev → St) (reply : St → Ev → B → B) (hungry : Ev) (quiet : Ev → Bool) : Type 0 where
  pub silent : (s : St) → quiet (judge s) ≡ true → judge s ≡ hungry
  pub hungers : quiet hungry ≡ true
  pub stays : (s : St) → after s hungry ≡ s
  pub mute : (s : St) (b : B) → reply s hungry b ≡ b

-- ## A feed

module _ {St Ev X B : Type 0} (step : St → X → St) (put : St → X → B → B) (judge : St → Ev) (after : St → Ev → St)
    (reply : St → Ev → B → B) (hungry : Ev) (quiet : Ev → Bool) where
  abbrev pub fed : St → B → List X → Fed St Ev B
  fed s b xs = feed step put judge after reply hungry quiet s b xs

  -- saying an event when a run of symbols is in
  abbrev pub saying : St → B → List X → Ev → Fed St Ev B
  saying s b xs e =
      let t = step_all step s xs in
      record { event = e; consumed = length xs; buffers = reply t e (put_all step put s xs b); next = after t e }

  -- what is said when one more symbol is in
  abbrev pub said : St → B → X → Fed St Ev B
  said s b x = saying s b (x ∷ []) (judge (step s x))

  -- an answer whose feed consumed n symbols more before it
  abbrev pub later : ℕ → Fed St Ev B → Fed St Ev B
  later n r = record { event = r.event; consumed = n + r.consumed; buffers = r.buffers; next = r.next }

  abbrev pub more : Fed St Ev B → Fed St Ev B
  more r = record { event = r.event; consumed = suc r.consumed; buffers = r.buffers; next = r.next }

  -- a quiet symbol, and one at which something is said
  pub goes : (x : X) (xs : List X) (b : B) (s : St) → quiet (judge (step s x)) ≡ true → fed s b (x ∷ xs) ≡ more (fed (step s x) (put s x b) xs)
  unfolding feed pick
  goes x xs b s h = rw h

  pub ends : (x : X) (xs : List X) (b : B) (s : St) → quiet (judge (step s x)) ≡ false → fed s b (x ∷ xs) ≡ said s b x
  unfolding feed pick
  ends x xs b s h = rw h

  -- what holds of an answer at once, and of one more quiet symbol, holds of every feed
  pub by_feed : (P : St → B → List X → Fed St Ev B → Type 0)
      → ((s : St) (b : B) → P s b [] (record { event = hungry; consumed = 0; buffers = b; next = s }))
      → ((s : St) (b : B) (x : X) (xs : List X) → quiet (judge (step s x)) ≡ false → P s b (x ∷ xs) (said s b x))
      → ((s : St) (b : B) (x : X) (xs : List X) (r : Fed St Ev B) → quiet (judge (step s x)) ≡ true → P (step s x) (put s x b) xs r → P s b (x ∷ xs) (more r))
      → (xs : List X) (b : B) (s : St) → P s b xs (fed s b xs)
  unfolding feed
  by_feed P none at on [] b s = none s b
  by_feed P none at on (x ∷ xs) b s =
      let r = by_feed P none at on xs (put s x b) (step s x) in
      by_test (P s b (x ∷ xs)) (λ h. on s b x xs _ h r) (λ h. at s b x xs h)

  -- it consumes at least one symbol, if there is one, and at most all
  pub consumed-some : (xs : List X) (b : B) (s : St) → 0 < length xs → 0 < (fed s b xs).consumed
  consumed-some xs b s = by_feed (λ _ _ xs r. 0 < length xs → 0 < r.consumed) (λ _ _ h. h) (λ _ _ _ _ _ _. omega arith) (λ _ _ _ _ _ _ _ _. omega arith) xs b s

  pub consumed-most : (xs : List X) (b : B) (s : St) → (fed s b xs).consumed ≤ length xs
  consumed-most xs b s = by_feed (λ _ _ xs r. r.consumed ≤ length xs) (λ _ _. omega arith) (λ _ _ _ _ _. omega arith) (λ _ _ _ _ _ _ h. omega arith) xs b s

  -- ## In bulk: symbols after which nothing is said

  abbrev pub Quiet : St → List X → Type 0
  Quiet s [] = Unit
  Quiet s (x ∷ xs) = (quiet (judge (step s x)) ≡ true) × Quiet (step s x) xs

  fed-path : (e : Ev) (b : B) (s : St) {n n' : ℕ} → n ≡ n'
      → ◌≡◌ {A = Fed St Ev B} (record { event = e; consumed = n; buffers = b; next = s }) (record { event = e; consumed = n'; buffers = b; next = s })
  fed-path e b s p = λ i. record { event = e; consumed = p i; buffers = b; next = s }

  -- a quiet run is taken in at once
  pub skip : (xs ys : List X) (b : B) (s : St) → Quiet s xs → fed s b (xs ++ ys) ≡ later (length xs) (fed (step_all step s xs) (put_all step put s xs b) ys)
  skip [] ys b s q = fed-path _ _ _ (omega arith)
  skip (x ∷ xs) ys b s q = goes x (xs ++ ys) b s q.0 ∙ rw (skip xs ys (put s x b) (step s x) q.1) (fed-path _ _ _ (omega arith))

  pub skip_all : (xs : List X) (b : B) (s : St) → Quiet s xs
      → fed s b xs ≡ record { event = hungry; consumed = length xs; buffers = put_all step put s xs b; next = step_all step s xs }
  unfolding feed
  skip_all [] b s q = refl
  skip_all (x ∷ xs) b s q = goes x xs b s q.0 ∙ ap more (skip_all xs (put s x b) (step s x) q.1)

  -- and then the symbol at which something is said
  pub skip_to : (xs : List X) (x : X) (ys : List X) (b : B) (s : St) → Quiet s xs → quiet (judge (step (step_all step s xs) x)) ≡ false
      → fed s b (xs ++ x ∷ ys) ≡ later (length xs) (said (step_all step s xs) (put_all step put s xs b) x)
  skip_to xs x ys b s q h = skip xs (x ∷ ys) b s q ∙ ap (later (length xs)) (ends x ys (put_all step put s xs b) (step_all step s xs) h)

  module _ (laws : Lawful judge after reply hungry quiet) where
    -- whatever is answered is said when what was consumed is in
    pub fed_is : (xs : List X) (b : B) (s : St) → fed s b xs ≡ saying s b (take (fed s b xs).consumed xs) (fed s b xs).event
    fed_is xs b s =
        by_feed (λ s b xs r. r ≡ saying s b (take r.consumed xs) r.event)
        (λ s b. rw (laws.mute, laws.stays)) (λ _ _ _ _ _. refl) (λ _ _ _ _ _ _ h. ap more h) xs b s

    -- and is the judgement of that moment, if something is said
    pub fed_judged : (xs : List X) (b : B) (s : St) → quiet (fed s b xs).event ≡ false
        → judge (step_all step s (take (fed s b xs).consumed xs)) ≡ (fed s b xs).event
    fed_judged xs b s =
        by_feed (λ s b xs r. quiet r.event ≡ false → judge (step_all step s (take r.consumed xs)) ≡ r.event)
        (λ s b h. cc laws.hungers) (λ _ _ _ _ _ _. refl) (λ _ _ _ _ _ _ f. f) xs b s

    -- all is consumed where nothing is said
    pub consumed-all : (xs : List X) (b : B) (s : St) → quiet (fed s b xs).event ≡ true → (fed s b xs).consumed ≡ length xs
    consumed-all xs b s =
        by_feed (λ s b xs r. quiet r.event ≡ true → r.consumed ≡ length xs)
        (λ _ _ _. refl) (λ _ _ _ _ h q. cc) (λ _ _ _ _ _ _ f q. ap suc (f q)) xs b s

    -- what is said within the first symbols doesn't depend on the others
    pub said-within : (xs ys : List X) (b : B) (s : St) → quiet (fed s b xs).event ≡ false → fed s b (xs ++ ys) ≡ fed s b xs
    said-within xs ys b s =
        by_feed (λ s b xs r. quiet r.event ≡ false → fed s b (xs ++ ys) ≡ r)
        (λ s b h. cc laws.hungers)
        (λ s b x xs h _. ends x (xs ++ ys) b s h)
        (λ s b x xs r h f q. goes x (xs ++ ys) b s h ∙ ap more (f q)) xs b s

-- ## Timed symbols, one by one, up to the first at which the machine is shut

-- A symbol and the time that its feed is given. What is judged may depend on the time, but not whether it is quiet.
module _ {St Ev X T B : Type 0} (step : St → X → St) (put : St → X → B → B) (judge : T → St → Ev) (after : St → Ev → St)
    (reply : St → Ev → B → B) (hungry : Ev) (quiet : Ev → Bool) (laws : (t : T) → Lawful (judge t) after reply hungry quiet)
    (even : (t u : T) (s : St) → quiet (judge t s) ≡ quiet (judge u s)) (shut : St → Bool)
    (open-on : (s : St) (x : X) → shut (step s x) ≡ shut s) where
  abbrev pub feed_at : St → B → List X → T → Fed St Ev B
  feed_at s b xs t = feed step put (judge t) after reply hungry quiet s b xs

  abbrev said_at : St → B → X → T → Fed St Ev B
  said_at s b x t = said step put (judge t) after reply hungry quiet s b x

  abbrev none : St → B → Ran St Ev T B
  none s b = idle feed_at quiet shut s b

  abbrev pub first : T → Fed St Ev B → Ran St Ev T B → Ran St Ev T B
  first t r q = before feed_at quiet shut t r q

  unfoldable pub run : St → B → List (X × T) → Ran St Ev T B
  run s b [] = none s b
  run s b (y ∷ ys) =
      let r = said_at s b y.0 y.1 in
      pick (shut s) (none s b) (first y.1 r (run r.next r.buffers ys))

  abbrev and_then : Ran St Ev T B → (St → B → Ran St Ev T B) → Ran St Ev T B
  and_then r f =
      let q = f r.next r.buffers in
      record { notes = r.notes ++ q.notes; consumed = r.consumed + q.consumed; buffers = q.buffers; next = q.next }

  ran_path : {es es' : List (Note Ev T B)} {n n' : ℕ} (b : B) (s : St) → es ≡ es' → n ≡ n'
      → ◌≡◌ {A = Ran St Ev T B} (record { notes = es; consumed = n; buffers = b; next = s })
      (record { notes = es'; consumed = n'; buffers = b; next = s })
  ran_path b s p q = λ i. record { notes = p i; consumed = q i; buffers = b; next = s }

  pub run_shut : (s : St) (b : B) (ys : List (X × T)) → shut s ≡ true → run s b ys ≡ none s b
  unfolding run pick
  run_shut s b [] h = refl
  run_shut s b (y ∷ ys) h = rw h

  run_open : (s : St) (b : B) (x : X) (t : T) (ys : List (X × T)) → shut s ≡ false
      → let r = said_at s b x t in run s b ((x, t) ∷ ys) ≡ first t r (run r.next r.buffers ys)
  unfolding run pick
  run_open s b x t ys h = rw h

  first_then : (t : T) (r : Fed St Ev B) (q : Ran St Ev T B) (f : St → B → Ran St Ev T B) → first t r (and_then q f) ≡ and_then (first t r q) f
  first_then t r q f = ran_path _ _ (at (quiet r.event)) (omega arith)
    where
      at : (c : Bool)
          → let n : Note Ev T B = record { event = r.event; buffers = r.buffers; time = t } in
          let ns = (and_then q f).notes in
          cond c ns (n ∷ ns) ≡ cond c q.notes (n ∷ q.notes) ++ (f q.next q.buffers).notes
      at true = refl
      at false = refl

  run_cut : (xs ys : List (X × T)) (b : B) (s : St) → run s b (xs ++ ys) ≡ and_then (run s b xs) (λ s b. run s b ys)
  unfolding run
  run_cut [] ys b s = ran_path _ _ refl (omega arith)
  run_cut (x ∷ xs) ys b s =
      let r = said_at s b x.0 x.1 in
      let f = run_cut xs ys r.buffers r.next in
      by_test (λ q. run s b (x ∷ (xs ++ ys)) ≡ and_then q (λ s b. run s b ys))
      (λ h. run_shut s b (x ∷ (xs ++ ys)) h ∙ rw (run_shut s b ys h))
      (λ h. run_open s b x.0 x.1 (xs ++ ys) h ∙ rw f (first_then x.1 r (run r.next r.buffers xs) (λ s b. run s b ys)))

  -- all is consumed, but by a machine that is shut in the end
  run_consumed : (ys : List (X × T)) (b : B) (s : St) → shut (run s b ys).next ≡ false → (run s b ys).consumed ≡ length ys
  unfolding run
  run_consumed [] b s = λ _. refl
  run_consumed (y ∷ ys) b s =
      let r = said_at s b y.0 y.1 in
      let f = run_consumed ys r.buffers r.next in
      by_test (λ (q : Ran St Ev T B). shut q.next ≡ false → q.consumed ≡ suc (length ys)) (λ h o. cc) (λ h o. omega (arith, f o))

  -- ### Symbols that are given one time

  abbrev pub at : T → List X → List (X × T)
  at t xs = map (λ x. (x, t)) xs

  at_symbols : (t : T) (xs : List X) → map (λ (y : X × T). y.0) (at t xs) ≡ xs
  at_symbols t [] = refl
  at_symbols t (x ∷ xs) = ap (λ (ys : List X). x ∷ ys) (at_symbols t xs)

  at_parts : (t : T) (n : ℕ) (xs : List X) → at t (take n xs) ++ at t (drop n xs) ≡ at t xs
  at_parts t n xs = sym (map-append (λ x. (x, t)) (take n xs) (drop n xs)) ∙ ap (at t) (take-append-drop n xs)

  -- a feed is the first answer of the symbols that it consumes, whatever comes behind them
  pub fed_run : (t : T) (xs : List X) (b : B) (s : St) (ys : List (X × T)) → shut s ≡ false
      → let r = feed_at s b xs t in run s b (at t (take r.consumed xs) ++ ys) ≡ first t r (run r.next r.buffers ys)
  fed_run t xs b s ys =
      by_feed step put (judge t) after reply hungry quiet
      (λ s b xs r. shut s ≡ false → run s b (at t (take r.consumed xs) ++ ys) ≡ first t r (run r.next r.buffers ys))
      (λ s b o. rw (laws t).hungers (ran_path _ _ refl (omega arith)))
      (λ s b x xs h o. run_open s b x t ys o)
      (λ s b x xs r h f o. run_open s b x t (at t (take r.consumed xs) ++ ys) o
      ∙ rw ((laws t).silent (step s x) h, (laws t).hungers, (laws t).stays (step s x), (laws t).mute (step s x) (put s x b), f (open-on s x ∙ o))
      (ran_path _ _ refl (omega arith))) xs b s

  -- ### Pieces

  rest_run : (t : T) (xs : List X) (b : B) (s : St) (q : Ran St Ev T B) → (0 < length xs → q ≡ run s b (at t xs))
      → pick (empty feed_at quiet shut xs) (none s b) q ≡ run s b (at t xs)
  unfolding pick run
  rest_run t [] b s q f = refl
  rest_run t (x ∷ xs) b s q f = f (omega arith)

  drain_run : (turns : ℕ) (t : T) (xs : List X) (b : B) (s : St) → length xs < turns → drain feed_at quiet shut turns s b xs t ≡ run s b (at t xs)
  unfolding drain
  drain_run zero t xs b s h = absurd (omega arith)
  drain_run (suc turns) t xs b s h =
      let r = feed_at s b xs t in
      let rest = drop r.consumed xs in
      let l = length-drop r.consumed xs in
      let f = drain_run turns t rest r.buffers r.next in
      by_test (λ q. q ≡ run s b (at t xs)) (λ c. sym (run_shut s b (at t xs) c))
      (λ o. ap (first t r) (rest_run t rest r.buffers r.next _
      (λ p. f (omega (arith, consumed-some step put (judge t) after reply hungry quiet xs b s (omega arith)))))
      ∙ sym (fed_run t xs b s (at t rest) o) ∙ ap (run s b) (at_parts t r.consumed xs))

  abbrev streamed : List (Piece X T) → List (X × T)
  streamed [] = []
  streamed (p ∷ ps) = at p.time p.symbols ++ streamed ps

  streamed_symbols : (ps : List (Piece X T)) → map (λ (y : X × T). y.0) (streamed ps) ≡ flatten (map (λ p. p.symbols) ps)
  unfolding flatten
  streamed_symbols [] = refl
  streamed_symbols (p ∷ ps) =
      map-append (λ (y : X × T). y.0) (at p.time p.symbols) (streamed ps)
      ∙ (λ i. at_symbols p.time p.symbols i ++ streamed_symbols ps i)

  all_run : (ps : List (Piece X T)) (b : B) (s : St) → drain_all feed_at quiet shut s b ps ≡ run s b (streamed ps)
  unfolding run
  all_run [] b s = refl
  all_run (p ∷ ps) b s =
      let r = run s b (at p.time p.symbols) in
      rw (
        run_cut (at p.time p.symbols) (streamed ps) b s,
        drain_run (suc (length p.symbols)) p.time p.symbols b s (omega arith),
        all_run ps r.buffers r.next,
      )

  -- ### Two ways to feed the same symbols

  abbrev pub times_in : Ran St Ev T B → List T
  times_in r = map (λ n. n.time) r.notes

  abbrev further : Ran St Ev T B → Ran St Ev T B
  further q = record { notes = q.notes; consumed = 1 + q.consumed; buffers = q.buffers; next = q.next }

  module _ (s : St) (b : B) (o : shut s ≡ false) (x : X) where
    -- where nothing is said the time has no effect
    run_quiet : (t : T) (ys : List (X × T)) → quiet (judge t (step s x)) ≡ true → run s b ((x, t) ∷ ys) ≡ further (run (step s x) (put s x b) ys)
    run_quiet t ys h =
        run_open s b x t ys o
        ∙ rw ((laws t).silent (step s x) h, (laws t).hungers, (laws t).stays (step s x), (laws t).mute (step s x) (put s x b)) refl

    abbrev noted : T → Ran St Ev T B → Ran St Ev T B
    noted t q =
        let r = said_at s b x t in
        record {
          notes = record { event = r.event; buffers = r.buffers; time = t } ∷ q.notes;
          consumed = 1 + q.consumed;
          buffers = q.buffers;
          next = q.next;
        }

    run_said : (t : T) (ys : List (X × T)) → quiet (judge t (step s x)) ≡ false
        → let r = said_at s b x t in run s b ((x, t) ∷ ys) ≡ noted t (run r.next r.buffers ys)
    run_said t ys h = run_open s b x t ys o ∙ rw h refl

    module _ (xs ys : List (X × T)) (same : (b : B) (s : St) → times_in (run s b xs) ≡ times_in (run s b ys) → run s b xs ≡ run s b ys) where
      abbrev Same : T → T → Type 0
      Same t u = times_in (run s b ((x, t) ∷ xs)) ≡ times_in (run s b ((x, u) ∷ ys)) → run s b ((x, t) ∷ xs) ≡ run s b ((x, u) ∷ ys)

      same_quiet : (t u : T) → quiet (judge t (step s x)) ≡ true → Same t u
      same_quiet t u h e =
          let p = run_quiet t xs h in
          let q = run_quiet u ys (even u t (step s x) ∙ h) in
          p ∙ ap further (same (put s x b) (step s x) (sym (ap times_in p) ∙ e ∙ ap times_in q)) ∙ sym q

      same-said : (t : T) → quiet (judge t (step s x)) ≡ false → Same t t
      same-said t h e =
          let p = run_said t xs h in
          let q = run_said t ys h in
          let r = said_at s b x t in
          let k = sym (ap times_in p) ∙ e ∙ ap times_in q in
          p ∙ ap (noted t) (same r.buffers r.next (cc k)) ∙ sym q

      same-one : (t u : T) (c : Bool) → quiet (judge t (step s x)) ≡ c → Same t u
      same-one t u true h e = same_quiet t u h e
      same-one t u false h e =
          let k = sym (ap times_in (run_said t xs h)) ∙ e ∙ ap times_in (run_said u ys (even u t (step s x) ∙ h)) in
          subst (Same t) (cc k) (same-said t h) e

  -- of streams with the same symbols, what is said at the same times is the same
  pub same_run : (xs ys : List (X × T)) (b : B) (s : St) → map (λ (y : X × T). y.0) xs ≡ map (λ (y : X × T). y.0) ys
      → times_in (run s b xs) ≡ times_in (run s b ys) → run s b xs ≡ run s b ys
  same_run [] [] b s p e = refl
  same_run [] (y ∷ ys) b s p e = cc p
  same_run (x ∷ xs) [] b s p e = cc p
  same_run (x ∷ xs) (y ∷ ys) b s p e = at_once (shut s) refl (same_run xs ys) (cc p) (cc p)
    where
      at_once : (c : Bool) → shut s ≡ c
          → ((b : B) (s : St) → map (λ (y : X × T). y.0) xs ≡ map (λ (y : X × T). y.0) ys → times_in (run s b xs) ≡ times_in (run s b ys)
          → run s b xs ≡ run s b ys)
          → x.0 ≡ y.0 → map (λ (y : X × T). y.0) xs ≡ map (λ (y : X × T). y.0) ys → run s b (x ∷ xs) ≡ run s b (y ∷ ys)
      at_once true c f h k = run_shut s b (x ∷ xs) c ∙ sym (run_shut s b (y ∷ ys) c)
      at_once false c f h k =
          subst (λ (z : X). times_in (run s b (x ∷ xs)) ≡ times_in (run s b ((z, y.1) ∷ ys)) → run s b (x ∷ xs) ≡ run s b ((z, y.1) ∷ ys)) h
          (same-one s b c x.0 xs ys (λ b s. f b s k) x.1 y.1 (quiet (judge x.1 (step s x.0))) refl) e

  -- Pieces of the same stream give the same where what is said is said at the same times, empty pieces among them.
  pub cut : (ps qs : List (Piece X T)) (b : B) (s : St) → flatten (map (λ p. p.symbols) ps) ≡ flatten (map (λ p. p.symbols) qs)
      → times_in (drain_all feed_at quiet shut s b ps) ≡ times_in (drain_all feed_at quiet shut s b qs)
      → drain_all feed_at quiet shut s b ps ≡ drain_all feed_at quiet shut s b qs
  cut ps qs b s h =
      rw (all_run ps b s, all_run qs b s)
      (same_run (streamed ps) (streamed qs) b s (streamed_symbols ps ∙ h ∙ sym (streamed_symbols qs)))

  -- all of it is consumed, but by a machine that is shut in the end
  pub all-consumed : (ps : List (Piece X T)) (b : B) (s : St) → shut (drain_all feed_at quiet shut s b ps).next ≡ false
      → (drain_all feed_at quiet shut s b ps).consumed ≡ length (flatten (map (λ p. p.symbols) ps))
  all-consumed ps b s =
      rw (all_run ps b s, ← (streamed_symbols ps), length-map (streamed ps) (λ (y : X × T). y.0)) (run_consumed (streamed ps) b s)

-- ## A part of the buffers

abbrev pub of_part : {St Ev B C : Type 0} → (B → C) → Fed St Ev B → Fed St Ev C
of_part part r = record { event = r.event; consumed = r.consumed; buffers = part r.buffers; next = r.next }

-- A part on which symbols and events act by themselves is fed by itself.
module _ {St Ev X B C : Type 0} (step : St → X → St) (judge : St → Ev) (after : St → Ev → St) (hungry : Ev) (quiet : Ev → Bool) (part : B → C)
    (put : St → X → B → B) (reply : St → Ev → B → B) (put' : St → X → C → C) (reply' : St → Ev → C → C)
    (puts : (s : St) (x : X) (b : B) → part (put s x b) ≡ put' s x (part b))
    (replies : (s : St) (e : Ev) (b : B) → part (reply s e b) ≡ reply' s e (part b)) where
  pub fed-part : (xs : List X) (b : B) (s : St)
      → of_part part (feed step put judge after reply hungry quiet s b xs) ≡ feed step put' judge after reply' hungry quiet s (part b) xs
  unfolding feed
  fed-part xs b s =
      by_feed step put judge after reply hungry quiet (λ s b xs r. of_part part r ≡ feed step put' judge after reply' hungry quiet s (part b) xs)
      (λ s b. refl)
      (λ s b x xs h. rw (ends step put' judge after reply' hungry quiet x xs (part b) s h, replies (step s x) (judge (step s x)) (put s x b), puts s x b))
      (λ s b x xs r h f. rw (goes step put' judge after reply' hungry quiet x xs (part b) s h, ← (puts s x b), ← f)) xs b s

-- ## Another judge

-- A machine that does to images of states and events what it does to them, by another judge, feeds the image.
module _ {St Ev X B : Type 0} (step : St → X → St) (put : St → X → B → B) (after : St → Ev → St) (reply : St → Ev → B → B) (hungry : Ev)
    (quiet : Ev → Bool) (judge judge' : St → Ev) (f : St → St) (g : Ev → Ev)
    (steps : (s : St) (x : X) → f (step s x) ≡ step (f s) x) (puts : (s : St) (x : X) (b : B) → put s x b ≡ put (f s) x b)
    (judges : (s : St) → g (judge s) ≡ judge' (f s)) (afters : (s : St) (e : Ev) → f (after s e) ≡ after (f s) (g e))
    (replies : (s : St) (e : Ev) (b : B) → reply s e b ≡ reply (f s) (g e) b) (hungers : g hungry ≡ hungry)
    (quiets : (e : Ev) → quiet (g e) ≡ quiet e) where
  abbrev pub image_of : Fed St Ev B → Fed St Ev B
  image_of r = record { event = g r.event; consumed = r.consumed; buffers = r.buffers; next = f r.next }

  judged : (s : St) (x : X) → g (judge (step s x)) ≡ judge' (step (f s) x)
  judged s x = judges (step s x) ∙ ap judge' (steps s x)

  quiet_at : (s : St) (x : X) → quiet (judge' (step (f s) x)) ≡ quiet (judge (step s x))
  quiet_at s x = ap quiet (sym (judged s x)) ∙ quiets (judge (step s x))

  said_image : (s : St) (x : X) (b : B) → image_of (said step put judge after reply hungry quiet s b x) ≡ said step put judge' after reply hungry quiet (f s) b x
  said_image s x b =
      let e = judge (step s x) in
      let wrote = replies (step s x) e (put s x b) ∙ (λ i. reply (steps s x i) (judged s x i) (puts s x b i)) in
      let next = afters (step s x) e ∙ (λ i. after (steps s x i) (judged s x i)) in
      λ i. record { event = judged s x i; consumed = 1; buffers = wrote i; next = next i }

  pub fed_image : (xs : List X) (b : B) (s : St)
      → image_of (feed step put judge after reply hungry quiet s b xs) ≡ feed step put judge' after reply hungry quiet (f s) b xs
  unfolding feed
  fed_image xs b s =
      by_feed step put judge after reply hungry quiet (λ s b xs r. image_of r ≡ feed step put judge' after reply hungry quiet (f s) b xs)
      (λ s b. rw hungers)
      (λ s b x xs h. said_image s x b ∙ sym (ends step put judge' after reply hungry quiet x xs b (f s) (quiet_at s x ∙ h)))
      (λ s b x xs r h q.
      ap (more step put judge' after reply hungry quiet)
      (q ∙ λ i. feed step put judge' after reply hungry quiet (steps s x i) (puts s x b i) xs)
      ∙ sym (goes step put judge' after reply hungry quiet x xs b (f s) (quiet_at s x ∙ h))) xs b s

-- ## Other names for the events

-- an answer whose event has another name, by the state when what was consumed is in
abbrev pub renamed : {St Ev Ev' X B : Type 0} → (St → X → St) → (St → Ev → Ev') → St → List X → Fed St Ev B → Fed St Ev' B
renamed step name s xs r =
    record { event = name (step_all step s (take r.consumed xs)) r.event; consumed = r.consumed; buffers = r.buffers; next = r.next }

-- A machine that acts on the names as another on the events gives its answers renamed.
module _ {St Ev Ev' X B : Type 0} (step : St → X → St) (put : St → X → B → B) (judge : St → Ev) (after : St → Ev → St)
    (reply : St → Ev → B → B) (hungry : Ev) (quiet : Ev → Bool) (name : St → Ev → Ev')
    (after' : St → Ev' → St) (reply' : St → Ev' → B → B) (hungry' : Ev') (quiet' : Ev' → Bool)
    (afters : (s : St) (e : Ev) → after' s (name s e) ≡ after s e)
    (replies : (s : St) (e : Ev) (b : B) → reply' s (name s e) b ≡ reply s e b)
    (hungers : (s : St) → name s hungry ≡ hungry') (quiets : (s : St) (e : Ev) → quiet' (name s e) ≡ quiet e) where
  abbrev pub judge' : St → Ev'
  judge' s = name s (judge s)

  pub fed_renamed : (xs : List X) (b : B) (s : St)
      → renamed step name s xs (feed step put judge after reply hungry quiet s b xs) ≡ feed step put judge' after' reply' hungry' quiet' s b xs
  unfolding feed
  fed_renamed xs b s =
      by_feed step put judge after reply hungry quiet (λ s b xs r. renamed step name s xs r ≡ feed step put judge' after' reply' hungry' quiet' s b xs)
      (λ s b. rw hungers)
      (λ s b x xs h. rw (ends step put judge' after' reply' hungry' quiet' x xs b s (quiets (step s x) (judge (step s x)) ∙ h), afters, replies))
      (λ s b x xs r h f. ap (more step put judge' after' reply' hungry' quiet') f
      ∙ sym (goes step put judge' after' reply' hungry' quiet' x xs b s (quiets (step s x) (judge (step s x)) ∙ h))) xs b s

  pub lawful_renamed : Lawful judge after reply hungry quiet → quiet' hungry' ≡ true → Lawful judge' after' reply' hungry' quiet'
  lawful_renamed laws q =
      record {
        silent = λ s h. ap (name s) (laws.silent s (sym (quiets s (judge s)) ∙ h)) ∙ hungers s;
        hungers = q;
        stays = λ s. rw (← (hungers s), afters) (laws.stays s);
        mute = λ s b. rw (← (hungers s), replies) (laws.mute s b);
      }

-- ## Another feeder

-- One that gives the same on every state that isn't shut, with buffers of a kind that feeding keeps, drains the same.
module _ {St Ev X T B : Type 0} (quiet : Ev → Bool) (shut : St → Bool) (f g : St → B → List X → T → Fed St Ev B) (Good : B → Type 0)
    (keeps : (s : St) (b : B) (xs : List X) (t : T) → shut s ≡ false → Good b → Good (g s b xs t).buffers)
    (alike : (s : St) (b : B) (xs : List X) (t : T) → shut s ≡ false → Good b → f s b xs t ≡ g s b xs t) where
  drain-good : (turns : ℕ) (xs : List X) (t : T) (b : B) (s : St) → Good b → Good (drain g quiet shut turns s b xs t).buffers
  unfolding drain
  drain-good zero xs t b s h = h
  drain-good (suc turns) xs t b s h =
      let r = g s b xs t in
      by_test (λ (q : Ran St Ev T B). Good q.buffers) (λ _. h)
      (λ o. by_test (λ (q : Ran St Ev T B). Good q.buffers) (λ _. keeps s b xs t o h)
      (λ _. drain-good turns (drop r.consumed xs) t r.buffers r.next (keeps s b xs t o h)))

  drain-same : (turns : ℕ) (xs : List X) (t : T) (b : B) (s : St) → Good b → drain f quiet shut turns s b xs t ≡ drain g quiet shut turns s b xs t
  unfolding drain
  drain-same zero xs t b s h = refl
  drain-same (suc turns) xs t b s h =
      let r = g s b xs t in
      pick_same (shut s) (λ _. refl)
      (λ o. rw (alike s b xs t o h, drain-same turns (drop r.consumed xs) t r.buffers r.next (keeps s b xs t o h)))

  pub drains_same : (ps : List (Piece X T)) (b : B) (s : St) → Good b → drain_all f quiet shut s b ps ≡ drain_all g quiet shut s b ps
  drains_same [] b s h = refl
  drains_same (p ∷ ps) b s h =
      let n = suc (length p.symbols) in
      let r = drain g quiet shut n s b p.symbols p.time in
      rw (drain-same n p.symbols p.time b s h, drains_same ps r.buffers r.next (drain-good n p.symbols p.time b s h))
