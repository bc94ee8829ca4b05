-- Chains that are shared, and shares that are given back.
use Rattle.std.proofs.Common.{◌≡◌, ◌⊎◌, ℕ, suc, zero, ◌+◌, ◌-◌, ◌<◌, ◌≤◌, List, [], ◌∷◌, ◌++◌, Option, Some, None, IfSome, length, take, drop, refl, sym, ap, subst, ◌∙◌, append_assoc, arith, inl, inr, length-append, slice_get, slice_set}
use Rattle.std.specs.List.{AllZip}
use Rattle.std.proofs.lemmas.Option.{none-some}
use Rattle.std.proofs.lemmas.List.{append-nil}
use Rattle.buffer_model.specs.Share.{Share}
use Rattle.buffer_model.specs.Segment.{Segment, bytes_of, shared_as}
use Rattle.buffer_model.specs.Stake.{Stake, held, Keeps, Storage, KeepsTotals, KeepsTotalsBeside}
use Rattle.buffer_model.specs.Minted.{Numbers, NumbersOn, Adds, AddsAtMost}
use Rattle.buffer_model.specs.Clones.{Clones}
use Rattle.buffer_model.proofs.Totals.{keeps_same, keeps_equal, keeps-append, apart_first, apart_then}
use Rattle.buffer_model.proofs.Minted.{same_on, adds_on, on_then}
use Rattle.buffer_model.proofs.Clones.{clone_keeps_totals}
use Rattle.iobuf_chain.specs.Accounts.{held_by}
use Rattle.iobuf_chain.specs.Shares.{ClonesEach, ClonesFirst, ClonesAt, Regains, IsReturnable, AreReturnable, Rejoins, RejoinsAt, RejoinsEach}
use Rattle.iobuf_chain.proofs.Lists.{at_seam, set-set}
use Rattle.iobuf_chain.proofs.Accounts.{swaps_nodes, same_nodes, held_by-append}
use Rattle.iobuf_chain.proofs.Rejoined.{clone_returns, clone_regains, regains_each, regains_keep}

module _ {O : Type 0} where
  pub set_same : (i : ℕ) (xs : List (Segment O)) (x : Segment O) → slice_get xs i ≡ Some x → slice_set xs i x ≡ xs
  set_same i [] x is = refl
  set_same zero (z ∷ zs) x is = let same : x ≡ z = cc in ap (λ w. w ∷ zs) same
  set_same (suc i) (z ∷ zs) x is = ap (λ ws. z ∷ ws) (set_same i zs x is)

  pub node_cloned : (i : ℕ) (old new : Numbers) (before mid after : List (Segment O)) (w node left clone : Segment O) → slice_get before i ≡ Some node
      → mid ≡ slice_set before i w → Clones old new node left clone → after ≡ slice_set mid i left → ClonesAt i old new before after clone
  node_cloned i old new before mid after w node left clone at away clones back = record {
    node = node;
    left = left;
    there = at;
    clones = clones;
    after_is = back ∙ ap (λ ys. slice_set ys i left) away ∙ set-set i w left before;
  }

  pub node_stays : (i : ℕ) (before mid after : List (Segment O)) (w node left : Segment O) → slice_get before i ≡ Some node
      → mid ≡ slice_set before i w → left ≡ node → after ≡ slice_set mid i left → after ≡ before
  node_stays i before mid after w node left at away same back =
      back ∙ ap (λ ys. slice_set ys i left) away ∙ set-set i w left before ∙ ap (λ z. slice_set before i z) same ∙ set_same i before node at

  pub node_rejoined : (i : ℕ) (before mid after : List (Segment O)) (w node settled : Segment O) (share : Share O) → slice_get before i ≡ Some node
      → mid ≡ slice_set before i w → Rejoins node share settled → after ≡ slice_set mid i settled → RejoinsAt i before share after
  node_rejoined i before mid after w node settled share at away r back = record {
    node = node;
    settled = settled;
    there = at;
    rejoins = r;
    after_is = back ∙ ap (λ ys. slice_set ys i settled) away ∙ set-set i w settled before;
  }

  clones_push : (old mid new : Numbers) (bs ns cs : List (Segment O)) (b n c : Segment O) → ClonesEach old mid bs ns cs → Clones mid new b n c
      → ClonesEach old new (bs ++ b ∷ []) (ns ++ n ∷ []) (cs ++ c ∷ [])
  clones_push old mid new [] [] [] b n c is s = let P : Numbers → Type 0 = λ m. Clones m new b n c in (new, subst P is s, refl)
  clones_push old mid new (x ∷ bs) (y ∷ ns) (z ∷ cs) b n c is s = (is.0, is.1, clones_push is.0 mid new bs ns cs b n c is.2 s)
  clones_push old mid new [] [] (z ∷ cs) b n c is s = absurd is
  clones_push old mid new [] (y ∷ ns) [] b n c is s = absurd is
  clones_push old mid new [] (y ∷ ns) (z ∷ cs) b n c is s = absurd is
  clones_push old mid new (x ∷ bs) [] [] b n c is s = absurd is
  clones_push old mid new (x ∷ bs) [] (z ∷ cs) b n c is s = absurd is
  clones_push old mid new (x ∷ bs) (y ∷ ns) [] b n c is s = absurd is

  -- the nodes up to place i were cloned
  pub record SharesTo (i : ℕ) (old new : Numbers) (before after clones : List (Segment O)) : Type 0 where
    pub done : List (Segment O)
    pub left : List (Segment O)
    pub todo : List (Segment O)
    pub before_is : before ≡ done ++ todo
    pub after_is : after ≡ left ++ todo
    pub place : i ≡ length left
    pub made : i ≡ length clones
    pub clones_are : ClonesEach old new done left clones

  pub shares_begin : (old : Numbers) (before clones : List (Segment O)) → clones ≡ [] → SharesTo 0 old old before before clones
  shares_begin old before clones none =
      let P : List (Segment O) → Type 0 = λ cs. SharesTo 0 old old before before cs in
      subst P (sym none) record { done = []; left = []; todo = before; before_is = refl; after_is = refl; place = refl; made = refl; clones_are = refl }

  pub shares_size : (i : ℕ) (old new : Numbers) (before after clones : List (Segment O)) → SharesTo i old new before after clones → (i ≤ length after) × (i ≡ length clones)
  shares_size i old new before after clones s =
      let sizes = ap length s.after_is ∙ length-append s.left s.todo in
      let place = s.place in
      (omega (arith, sizes, place), s.made)

  pub shares_step : (i : ℕ) (old mid new : Numbers) (before now after clones more : List (Segment O)) (c : Segment O) → SharesTo i old mid before now clones
      → ClonesAt i mid new now after c → more ≡ clones ++ c ∷ [] → SharesTo (i + 1) old new before after more
  shares_step i old mid new before now after clones more c s at push =
      let here : slice_get (s.left ++ s.todo) (length s.left) ≡ Some at.node
      = ap (λ (m : ℕ). slice_get (s.left ++ s.todo) m) (sym s.place) ∙ ap (λ xs. slice_get xs i) (sym s.after_is) ∙ at.there in
      let seam = at_seam s.left s.todo at.node at.left here in
      let tail : List (Segment O) = seam.0 in
      let longer = length-append s.left (at.left ∷ []) in
      let further = ap length push ∙ length-append clones (c ∷ []) in
      let place = s.place in
      let made = s.made in
      let set : after ≡ s.left ++ (at.left ∷ tail)
      = at.after_is ∙ ap (λ xs. slice_set xs i at.left) s.after_is ∙ ap (λ (m : ℕ). slice_set (s.left ++ s.todo) m at.left) s.place ∙ seam.2 in
      let P : List (Segment O) → Type 0 = λ cs. ClonesEach old new (s.done ++ at.node ∷ []) (s.left ++ at.left ∷ []) cs in
      record {
        done = s.done ++ at.node ∷ [];
        left = s.left ++ at.left ∷ [];
        todo = tail;
        before_is = s.before_is ∙ ap (λ xs. s.done ++ xs) seam.1 ∙ sym (append_assoc s.done (at.node ∷ []) tail);
        after_is = set ∙ sym (append_assoc s.left (at.left ∷ []) tail);
        place = omega arith;
        made = omega (arith, further);
        clones_are = subst P (sym push) (clones_push old mid new s.done s.left clones at.node at.left c s.clones_are at.clones);
      }

  pub shares_stop : (i : ℕ) (old new : Numbers) (before after clones : List (Segment O)) → SharesTo i old new before after clones → ClonesFirst old new before after clones
  shares_stop i old new before after clones s = record {
    done = s.done;
    left = s.left;
    todo = s.todo;
    before_is = s.before_is;
    after_is = s.after_is;
    clones_are = s.clones_are;
  }

  ends_at : (xs ys : List (Segment O)) → length (ys ++ xs) ≤ length ys → xs ≡ []
  ends_at [] ys l = refl
  ends_at (x ∷ xs) ys l = absurd (let s = length-append ys (x ∷ xs) in omega (arith, s, l))

  pub shares_end : (i : ℕ) (old new : Numbers) (before after clones : List (Segment O)) → SharesTo i old new before after clones → length after ≤ i
      → ClonesEach old new before after clones
  shares_end i old new before after clones s h =
      let sizes = ap length s.after_is in
      let place = s.place in
      let none : s.todo ≡ [] = ends_at s.todo s.left (omega (arith, sizes, place, h)) in
      let first : s.done ≡ before = sym (append-nil s.done) ∙ ap (λ xs. s.done ++ xs) (sym none) ∙ sym s.before_is in
      let second : s.left ≡ after = sym (append-nil s.left) ∙ ap (λ xs. s.left ++ xs) (sym none) ∙ sym s.after_is in
      let P : List (Segment O) → Type 0 = λ xs. ClonesEach old new xs s.left clones in
      let Q : List (Segment O) → Type 0 = λ xs. ClonesEach old new before xs clones in
      subst Q second (subst P first s.clones_are)

  pub one_cloned : (old new : Numbers) (before after : List (Segment O)) (c : Segment O) → ClonesAt 0 old new before after c → length before ≡ 1
      → ClonesEach old new before after (c ∷ [])
  one_cloned old new [] after c at e = absurd (omega arith)
  one_cloned old new (x ∷ []) after c at e =
      let there = at.there in
      let same : at.node ≡ x = cc in
      let P : Segment O → Type 0 = λ z. Clones old new z at.left c in
      let Q : List (Segment O) → Type 0 = λ xs. ClonesEach old new (x ∷ []) xs (c ∷ []) in
      subst Q (sym at.after_is) (new, subst P same at.clones, refl)
  one_cloned old new (x ∷ y ∷ ys) after c at e = absurd (omega arith)

  -- each clone may be given back to its node
  each_returns : (old new : Numbers) (bs ns cs todo : List (Segment O)) → ClonesEach old new bs ns cs → AreReturnable (ns ++ todo) cs
  each_returns old new [] [] [] todo is = tt
  each_returns old new (b ∷ bs) (n ∷ ns) (c ∷ cs) todo is = (clone_returns old is.0 b n c is.1, each_returns is.0 new bs ns cs todo is.2)
  each_returns old new [] [] (z ∷ cs) todo is = absurd is
  each_returns old new [] (y ∷ ns) [] todo is = absurd is
  each_returns old new [] (y ∷ ns) (z ∷ cs) todo is = absurd is
  each_returns old new (x ∷ bs) [] [] todo is = absurd is
  each_returns old new (x ∷ bs) [] (z ∷ cs) todo is = absurd is
  each_returns old new (x ∷ bs) (y ∷ ns) [] todo is = absurd is

  pub first_return : (old new : Numbers) (before after clones : List (Segment O)) → ClonesFirst old new before after clones → AreReturnable after clones
  first_return old new before after clones f =
      let P : List (Segment O) → Type 0 = λ xs. AreReturnable xs clones in
      subst P (sym f.after_is) (each_returns old new f.done f.left clones f.todo f.clones_are)

  each_regains : (old new : Numbers) (bs ns cs todo after : List (Segment O)) → ClonesEach old new bs ns cs → RejoinsEach (ns ++ todo) cs after
      → AllZip Regains (bs ++ todo) after
  each_regains old new [] [] [] todo after is r = regains_each todo after r
  each_regains old new (b ∷ bs) (n ∷ ns) (c ∷ cs) todo [] is r = absurd r
  each_regains old new (b ∷ bs) (n ∷ ns) (c ∷ cs) todo (m ∷ ms) is r =
      (clone_regains old is.0 b n c m is.1 r.0, each_regains is.0 new bs ns cs todo ms is.2 r.1)
  each_regains old new [] [] (z ∷ cs) todo after is r = absurd is
  each_regains old new [] (y ∷ ns) [] todo after is r = absurd is
  each_regains old new [] (y ∷ ns) (z ∷ cs) todo after is r = absurd is
  each_regains old new (x ∷ bs) [] [] todo after is r = absurd is
  each_regains old new (x ∷ bs) [] (z ∷ cs) todo after is r = absurd is
  each_regains old new (x ∷ bs) (y ∷ ns) [] todo after is r = absurd is

  pub first_regains : (old new : Numbers) (before mid clones after : List (Segment O)) → ClonesFirst old new before mid clones → RejoinsEach mid clones after
      → AllZip Regains before after
  first_regains old new before mid clones after f r =
      let P : List (Segment O) → Type 0 = λ xs. RejoinsEach xs clones after in
      let Q : List (Segment O) → Type 0 = λ xs. AllZip Regains xs after in
      subst Q (sym f.before_is) (each_regains old new f.done f.left clones f.todo after f.clones_are (subst P f.after_is r))

  -- no step changes how many nodes there are
  clones_size : (old new : Numbers) (bs ns cs : List (Segment O)) → ClonesEach old new bs ns cs → (length ns ≡ length bs) × (length cs ≡ length bs)
  clones_size old new [] [] [] is = (refl, refl)
  clones_size old new (b ∷ bs) (n ∷ ns) (c ∷ cs) is = let more = clones_size is.0 new bs ns cs is.2 in (omega (arith, more.0), omega (arith, more.1))
  clones_size old new [] [] (z ∷ cs) is = absurd is
  clones_size old new [] (y ∷ ns) [] is = absurd is
  clones_size old new [] (y ∷ ns) (z ∷ cs) is = absurd is
  clones_size old new (x ∷ bs) [] [] is = absurd is
  clones_size old new (x ∷ bs) [] (z ∷ cs) is = absurd is
  clones_size old new (x ∷ bs) (y ∷ ns) [] is = absurd is

  pub shares_total : (i : ℕ) (old new : Numbers) (before after clones : List (Segment O)) → SharesTo i old new before after clones → length after ≡ length before
  shares_total i old new before after clones s =
      let same = clones_size old new s.done s.left clones s.clones_are in
      let a = ap length s.after_is ∙ length-append s.left s.todo in
      let b = ap length s.before_is ∙ length-append s.done s.todo in
      let e = same.0 in
      omega (arith, a, b, e)

  pub each_sum : (old new : Numbers) (bs ns cs : List (Segment O)) → ClonesEach old new bs ns cs
      → (length ns ≡ length bs) × (length cs ≡ length bs) × (bytes_of ns ≡ bytes_of bs) × (bytes_of cs ≡ bytes_of bs)
  each_sum old new [] [] [] is = (refl, refl, refl, refl)
  each_sum old new (b ∷ bs) (n ∷ ns) (c ∷ cs) is =
      let more = each_sum is.0 new bs ns cs is.2 in
      let left : n.window ≡ b.window = ap (λ (t : Segment O). t.window) is.1.lists in
      let clone : c.window ≡ b.window = ap (λ (t : Segment O). t.window) is.1.clone_lists in (
        ap (λ (k : ℕ). suc k) more.0,
        ap (λ (k : ℕ). suc k) more.1,
        ap (λ bytes. bytes ++ bytes_of ns) left ∙ ap (λ bytes. b.window ++ bytes) more.2,
        ap (λ bytes. bytes ++ bytes_of cs) clone ∙ ap (λ bytes. b.window ++ bytes) more.3,
      )
  each_sum old new [] [] (z ∷ cs) is = absurd is
  each_sum old new [] (y ∷ ns) [] is = absurd is
  each_sum old new [] (y ∷ ns) (z ∷ cs) is = absurd is
  each_sum old new (x ∷ bs) [] [] is = absurd is
  each_sum old new (x ∷ bs) [] (z ∷ cs) is = absurd is
  each_sum old new (x ∷ bs) (y ∷ ns) [] is = absurd is

  -- shares that are given back to the nodes up to a place, and those that are left
  abbrev pub SettlesAll : List (Segment O) → List (Segment O) → List (Segment O) → Type 0
  SettlesAll [] [] [] = Unit {0}
  SettlesAll (n ∷ ns) (s ∷ ss) (m ∷ ms) = Rejoins n s.share m × SettlesAll ns ss ms
  SettlesAll _ _ _ = ⊥

  settles_push : (ns ss ms : List (Segment O)) (n s m : Segment O) → SettlesAll ns ss ms → Rejoins n s.share m
      → SettlesAll (ns ++ n ∷ []) (ss ++ s ∷ []) (ms ++ m ∷ [])
  settles_push [] [] [] n s m is r = (r, tt)
  settles_push (x ∷ xs) (y ∷ ys) (z ∷ zs) n s m is r = (is.0, settles_push xs ys zs n s m is.1 r)
  settles_push [] [] (z ∷ zs) n s m is r = absurd is
  settles_push [] (y ∷ ys) [] n s m is r = absurd is
  settles_push [] (y ∷ ys) (z ∷ zs) n s m is r = absurd is
  settles_push (x ∷ xs) [] [] n s m is r = absurd is
  settles_push (x ∷ xs) [] (z ∷ zs) n s m is r = absurd is
  settles_push (x ∷ xs) (y ∷ ys) [] n s m is r = absurd is

  settles_then : (ns ss ms todo : List (Segment O)) → SettlesAll ns ss ms → RejoinsEach (ns ++ todo) ss (ms ++ todo)
  settles_then [] [] [] todo is = refl
  settles_then (x ∷ xs) (y ∷ ys) (z ∷ zs) todo is = (is.0, settles_then xs ys zs todo is.1)
  settles_then [] [] (z ∷ zs) todo is = absurd is
  settles_then [] (y ∷ ys) [] todo is = absurd is
  settles_then [] (y ∷ ys) (z ∷ zs) todo is = absurd is
  settles_then (x ∷ xs) [] [] todo is = absurd is
  settles_then (x ∷ xs) [] (z ∷ zs) todo is = absurd is
  settles_then (x ∷ xs) (y ∷ ys) [] todo is = absurd is

  -- shares up to place i were given back
  pub record RejoinsTo (i : ℕ) (before clones after left : List (Segment O)) : Type 0 where
    pub done : List (Segment O)
    pub settled : List (Segment O)
    pub given : List (Segment O)
    pub todo : List (Segment O)
    pub before_is : before ≡ done ++ todo
    pub after_is : after ≡ settled ++ todo
    pub clones_are : clones ≡ given ++ left
    pub place : i ≡ length settled
    pub count : i ≡ length given
    pub settles : SettlesAll done given settled
    pub returnable : AreReturnable todo left

  pub rejoins_begin : (before clones : List (Segment O)) → AreReturnable before clones → RejoinsTo 0 before clones before clones
  rejoins_begin before clones may = record {
    done = [];
    settled = [];
    given = [];
    todo = before;
    before_is = refl;
    after_is = refl;
    clones_are = refl;
    place = refl;
    count = refl;
    settles = tt;
    returnable = may;
  }

  head_returns : (todo left : List (Segment O)) (s : Segment O) (rest : List (Segment O)) → left ≡ s ∷ rest → AreReturnable todo left
      → (n : Segment O) × (more : List (Segment O)) × (todo ≡ n ∷ more) × IsReturnable n.share s.share × AreReturnable more rest
  head_returns [] left s rest is may = let P : List (Segment O) → Type 0 = λ xs. AreReturnable [] xs in absurd (subst P is may)
  head_returns (n ∷ more) left s rest is may =
      let P : List (Segment O) → Type 0 = λ xs. AreReturnable (n ∷ more) xs in
      let both = subst P is may in
      (n, more, refl, both.0, both.1)

  at_front : (done todo : List (Segment O)) (n : Segment O) (more : List (Segment O)) → todo ≡ n ∷ more → slice_get (done ++ todo) (length done) ≡ Some n
  at_front [] todo n more is = ap (λ xs. slice_get xs 0) is
  at_front (d ∷ ds) todo n more is = at_front ds todo n more is

  -- the next share may be given back to the next node
  pub rejoins_next : (i : ℕ) (before clones after left rest : List (Segment O)) (s : Segment O) → RejoinsTo i before clones after left → left ≡ s ∷ rest
      → (n : Segment O) × (slice_get after i ≡ Some n) × IsReturnable n.share s.share × (i < length after)
  rejoins_next i before clones after left rest s r front =
      let next = head_returns r.todo left s rest front r.returnable in
      let at : slice_get after i ≡ Some next.0
      = ap (λ xs. slice_get xs i) r.after_is ∙ ap (λ (m : ℕ). slice_get (r.settled ++ r.todo) m) r.place ∙ at_front r.settled r.todo next.0 next.1 next.2 in
      let sizes = ap length r.after_is ∙ length-append r.settled r.todo in
      let some = ap length next.2 in
      let place = r.place in
      (next.0, at, next.3, omega (arith, sizes, some, place))

  pub rejoins_step : (i : ℕ) (before clones after new left rest : List (Segment O)) (s : Segment O) → RejoinsTo i before clones after left → left ≡ s ∷ rest
      → RejoinsAt i after s.share new → RejoinsTo (i + 1) before clones new rest
  unfolding head_returns rejoins_next
  rejoins_step i before clones after new left rest s r front at =
      let next = head_returns r.todo left s rest front r.returnable in
      let n : Segment O = next.0 in
      let more : List (Segment O) = next.1 in
      let found : slice_get after i ≡ Some n = (rejoins_next i before clones after left rest s r front).1 in
      let there = at.there in
      let same : at.node ≡ n = cc in
      let here : slice_get (r.settled ++ r.todo) (length r.settled) ≡ Some n
      = ap (λ (m : ℕ). slice_get (r.settled ++ r.todo) m) (sym r.place) ∙ ap (λ xs. slice_get xs i) (sym r.after_is) ∙ found in
      let seam = at_seam r.settled r.todo n at.settled here in
      let tail : more ≡ seam.0 = let e : n ∷ more ≡ n ∷ seam.0 = sym next.2 ∙ seam.1 in cc in
      let set : new ≡ r.settled ++ (at.settled ∷ more)
      = at.after_is ∙ ap (λ xs. slice_set xs i at.settled) r.after_is ∙ ap (λ (m : ℕ). slice_set (r.settled ++ r.todo) m at.settled) r.place ∙ seam.2
      ∙ ap (λ xs. r.settled ++ (at.settled ∷ xs)) (sym tail) in
      let P : Segment O → Type 0 = λ z. Rejoins z s.share at.settled in
      let longer = length-append r.settled (at.settled ∷ []) in
      let further = length-append r.given (s ∷ []) in
      let place = r.place in
      let count = r.count in
      record {
        done = r.done ++ n ∷ [];
        settled = r.settled ++ at.settled ∷ [];
        given = r.given ++ s ∷ [];
        todo = more;
        before_is = r.before_is ∙ ap (λ xs. r.done ++ xs) next.2 ∙ sym (append_assoc r.done (n ∷ []) more);
        after_is = set ∙ sym (append_assoc r.settled (at.settled ∷ []) more);
        clones_are = r.clones_are ∙ ap (λ xs. r.given ++ xs) front ∙ sym (append_assoc r.given (s ∷ []) rest);
        place = omega arith;
        count = omega arith;
        settles = settles_push r.done r.given r.settled n s at.settled r.settles (subst P same at.rejoins);
        returnable = next.4;
      }

  pub rejoins_end : (i : ℕ) (before clones after left : List (Segment O)) → RejoinsTo i before clones after left → length clones ≤ i → RejoinsEach before clones after
  rejoins_end i before clones after left r h =
      let sizes = ap length r.clones_are in
      let count = r.count in
      let none : left ≡ [] = ends_at left r.given (omega (arith, sizes, count, h)) in
      let all : r.given ≡ clones = sym (append-nil r.given) ∙ ap (λ xs. r.given ++ xs) (sym none) ∙ sym r.clones_are in
      let P : List (Segment O) → Type 0 = λ xs. RejoinsEach before xs after in
      let Q : List (Segment O) → Type 0 = λ xs. RejoinsEach xs r.given after in
      let S : List (Segment O) → Type 0 = λ xs. RejoinsEach (r.done ++ r.todo) r.given xs in
      subst P all (subst Q (sym r.before_is) (subst S (sym r.after_is) (settles_then r.done r.given r.settled r.todo r.settles)))

  pub keeps_over : (n : Storage) (xs ys zs : List (Stake O)) → Keeps xs ys n → Keeps ys zs n → Keeps xs zs n
  keeps_over n xs ys zs p q = record { total = q.total ∙ p.total; way = λ kind is. q.way kind (p.way kind is) }

  clone_on : (old new : Numbers) (before after clone : Segment O) → Clones old new before after clone → NumbersOn old new
  clone_on old new before after clone is = elim is.shares [
    | inl (same, s) ↦ same_on old new same
    | inr (adds, s) ↦ adds_on 1 old new adds
  ]

  -- the mint goes on
  pub each_on : (old new : Numbers) (bs ns cs : List (Segment O)) → ClonesEach old new bs ns cs → NumbersOn old new
  each_on old new [] [] [] is = same_on old new is
  each_on old new (b ∷ bs) (x ∷ ns) (c ∷ cs) is = on_then old is.0 new (clone_on old is.0 b x c is.1) (each_on is.0 new bs ns cs is.2)
  each_on old new [] [] (z ∷ cs) is = absurd is
  each_on old new [] (y ∷ ns) [] is = absurd is
  each_on old new [] (y ∷ ns) (z ∷ cs) is = absurd is
  each_on old new (x ∷ bs) [] [] is = absurd is
  each_on old new (x ∷ bs) [] (z ∷ cs) is = absurd is
  each_on old new (x ∷ bs) (y ∷ ns) [] is = absurd is

  -- clones keep totals
  pub each_keeps : (old new : Numbers) (bs ns cs : List (Segment O)) → ClonesEach old new bs ns cs → KeepsTotalsBeside old new (held_by bs) (held_by (ns ++ cs))
  each_keeps old new [] [] [] is n h = keeps_same [] n
  each_keeps old new (b ∷ bs) (x ∷ ns) (c ∷ cs) is n h =
      let mid : Numbers = is.0 in
      let first = clone_on old mid b x c is.1 in
      let next = each_on mid new bs ns cs is.2 in
      let head : Keeps (held_by (b ∷ [])) (held_by (x ∷ c ∷ [])) n = clone_keeps_totals old mid b x c is.1 n (apart_first old mid new n next h) in
      let rest = each_keeps mid new bs ns cs is.2 n (apart_then old mid new n first h) in
      let both : Keeps (held_by (b ∷ bs)) (held_by (x ∷ c ∷ []) ++ held_by (ns ++ cs)) n = keeps-append n (held_by (b ∷ [])) (held_by bs) (held_by (x ∷ c ∷ [])) (held_by (ns ++ cs)) head rest in
      let turned : Keeps (held_by (x ∷ (c ∷ [] ++ ns))) (held_by (x ∷ (ns ++ c ∷ []))) n = swaps_nodes (x ∷ []) (c ∷ []) ns n in
      let longer = keeps-append n (held_by (x ∷ c ∷ ns)) (held_by cs) (held_by (x ∷ (ns ++ c ∷ []))) (held_by cs) turned (keeps_same (held_by cs) n) in
      let start : held_by (x ∷ c ∷ []) ++ held_by (ns ++ cs) ≡ held_by (x ∷ c ∷ ns) ++ held_by cs = ap (λ hs. held x.share ∷ held c.share ∷ hs) (held_by-append ns cs) in
      let end : held_by (x ∷ (ns ++ c ∷ [])) ++ held_by cs ≡ held_by ((x ∷ ns) ++ (c ∷ cs))
      = sym (held_by-append (x ∷ (ns ++ c ∷ [])) cs) ∙ ap (λ xs. held x.share ∷ held_by xs) (append_assoc ns (c ∷ []) cs) in
      keeps_over n _ _ _ both (keeps_over n _ _ _ (keeps_equal _ _ start n) (keeps_over n _ _ _ longer (keeps_equal _ _ end n)))
  each_keeps old new [] [] (z ∷ cs) is n h = absurd is
  each_keeps old new [] (y ∷ ns) [] is n h = absurd is
  each_keeps old new [] (y ∷ ns) (z ∷ cs) is n h = absurd is
  each_keeps old new (x ∷ bs) [] [] is n h = absurd is
  each_keeps old new (x ∷ bs) [] (z ∷ cs) is n h = absurd is
  each_keeps old new (x ∷ bs) (y ∷ ns) [] is n h = absurd is

  pub regains_sum : (xs ys : List (Segment O)) → AllZip Regains xs ys → (length ys ≡ length xs) × (bytes_of ys ≡ bytes_of xs)
  regains_sum [] [] all = (refl, refl)
  regains_sum [] (y ∷ ys) all = absurd all
  regains_sum (x ∷ xs) [] all = absurd all
  regains_sum (x ∷ xs) (y ∷ ys) all =
      let more = regains_sum xs ys all.1 in
      let same : y.window ≡ x.window = ap (λ (t : Segment O). t.window) all.0.lists in
      (ap (λ (k : ℕ). suc k) more.0, ap (λ bytes. bytes ++ bytes_of ys) same ∙ ap (λ bytes. x.window ++ bytes) more.1)

  pub refused_keeps : (a b : Numbers) (xs ys : List (Segment O)) → AllZip Regains xs ys → KeepsTotalsBeside a b (held_by xs) (held_by (ys ++ []))
  refused_keeps a b xs ys all n h = keeps_over n _ _ _ (regains_keep xs ys all n) (same_nodes _ _ (sym (append-nil ys)) n)

  pub rejoins_size : (i : ℕ) (before clones after left : List (Segment O)) → RejoinsTo i before clones after left → length clones ≡ i + length left
  rejoins_size i before clones after left r =
      let sizes = ap length r.clones_are ∙ length-append r.given left in
      let count = r.count in
      omega (arith, sizes, count)

  pub one_cloned_is : (old new : Numbers) (before after cs : List (Segment O)) (c : Segment O) → ClonesAt 0 old new before after c → length before ≡ 1
      → cs ≡ c ∷ [] → ClonesEach old new before after cs
  one_cloned_is old new before after cs c at e is =
      let P : List (Segment O) → Type 0 = λ xs. ClonesEach old new before after xs in
      subst P (sym is) (one_cloned old new before after c at e)

  pub regains_from : (xs ys zs : List (Segment O)) → xs ≡ zs → AllZip Regains xs ys → AllZip Regains zs ys
  regains_from xs ys zs e all = let P : List (Segment O) → Type 0 = λ w. AllZip Regains w ys in subst P e all

  pub keeps_from : (a b : Numbers) (xs ys zs : List (Segment O)) → xs ≡ zs → KeepsTotalsBeside a b (held_by xs) (held_by ys)
      → KeepsTotalsBeside a b (held_by zs) (held_by ys)
  keeps_from a b xs ys zs e keeps = let P : List (Segment O) → Type 0 = λ w. KeepsTotalsBeside a b (held_by w) (held_by ys) in subst P e keeps
