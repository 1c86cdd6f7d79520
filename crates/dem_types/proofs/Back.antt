-- A message is read back from its values and, where it has strings, from the place where it ends. So two messages that code can hold, that
-- were read to the same values and end at the same place are the same.
-- Assumes nothing.
use mathlib.Core.Path.{◌≡◌, refl, sym, ap, ap₂, ◌∙◌}
use mathlib.Core.List.{List, [], ◌∷◌}
use mathlib.Core.Bool.{Bool, true, cond}
use Prim.Native.Nat.{ℕ, ◌+◌, ◌-◌, ◌≤◌}
use native.Mathlib.Omega.{arith}
use borrow.Author.Tests.{eqb-true}
use lib.Dec.{eqb}
use lib.IntN.{ℤ}
use lib.ListN.{length, drop, get_or, length-drop}
use lib.Seq.{length-take-le}
use denote.Enum.Declared.{row, variants}
use denote.Enum.Laws.{Fields, spellss, owed}
use Rattle.dem.specs.Limits.{name_limit}
use Rattle.format.specs.Layout.{Value, number, as_text, numbers, first_number, tail}
use Rattle.dem.specs.Scene.{Context}
use Rattle.dem.specs.Message.{is_update, is_empty, kind_layout, layout}
use Rattle.format.proofs.LayoutLaws.{Allowed, and_true}
use Rattle.wire.specs.Reads.{placed}
use Rattle.wire.specs.declared.Text.{Text}
use Rattle.wire.proofs.FieldLaws.{Held, from, from_front}
use Rattle.strings.specs.Names.{names_in}
use Rattle.strings.proofs.Places.{placed_inside}
use Rattle.strings.proofs.NameLaws.{Texts, joined, names_joined, lists_texts}
use Rattle.dem_types.specs.declared.Temporary.{Temporary}
use Rattle.dem_types.specs.declared.Temporary.TheVariants.{Point, Line, Explosion2}
use Rattle.dem_types.specs.declared.Serverinfo.{Serverinfo}
use Rattle.dem_types.specs.declared.Update.{Update}
use Rattle.dem_types.specs.declared.Message.{Message}
use Rattle.dem_types.specs.declared.Message.TheVariants as M
use Rattle.dem_types.specs.Values.{temporary_values, serverinfo_values, update_values, values_of}
use Rattle.dem_types.specs.Places.{ends_at, in_place}
use Rattle.dem_types.specs.contracts.Message as MessageType
use Rattle.dem_types.proofs.Message.TheLaws as MessageLaws
use Rattle.dem_types.specs.contracts.Temporary as TemporaryType
use Rattle.dem_types.proofs.Temporary.TheLaws as TemporaryLaws
use Rattle.dem_types.proofs.Structs.{byte, four, char, short, long, player, entity, vector, look, pose, sound, clientdata, particle, update}

-- ---- back from the values

-- A string that ends, with its zero, at a place.
abbrev ending : ℕ → List ℕ → Text
ending end t = record { start = end - (length t + 1); len = length t }

-- Strings that end there, with their zeros.
abbrev names_ending : ℕ → List Value → Text
names_ending end vs = record { start = end - length (joined vs); len = length (joined vs) }

-- A temporary entity's case is told by how many numbers it has.
abbrev temporary_from : List ℕ → Temporary
temporary_from ns =
    cond (is_empty (drop 4 ns)) (Point (from byte ns) (from vector (drop 1 ns)))
    (cond (is_empty (drop 6 ns)) (Explosion2 (from vector (drop 1 ns)) (from byte (drop 4 ns)) (from byte (drop 5 ns)))
    (Line (from byte ns) (from entity (drop 1 ns)) (from vector (drop 2 ns)) (from vector (drop 5 ns))))

abbrev Kind : Type 0
Kind = ℕ → List Value → Message

-- From numbers alone.
abbrev plain : (List ℕ → Message) → Kind
plain f end vs = f (numbers vs)

-- With a string at the end, the i-th value.
abbrev said : ℕ → (List ℕ → Text → Message) → Kind
said i f end vs = f (numbers vs) (ending end (as_text (get_or vs i (number 0))))

-- The map's name ends where the lists of names start.
abbrev info_with : ℤ → ℕ → ℕ → List ℕ → Text → Message
info_with protocol limit game map names =
    M.Serverinfo (record { protocol = protocol; limit = limit; game = game; map = ending names.start map; names = names })

abbrev serverinfo : Kind
serverinfo end vs =
    let ns = numbers vs in
    info_with (from long ns) (from byte (drop 1 ns)) (from byte (drop 2 ns)) (as_text (get_or vs 3 (number 0))) (names_ending end (drop 4 vs))

-- The messages 0 to 34 in turn, from the place where each ends and the values behind its number.
abbrev kinds : List Kind
kinds =
    plain (λ ns. M.Nop)
    ∷ plain (λ ns. M.Nop)
    ∷ plain (λ ns. M.Disconnect)
    ∷ plain (λ ns. M.Stat (from byte ns) (from long (drop 1 ns)))
    ∷ plain (λ ns. M.Version (from long ns))
    ∷ plain (λ ns. M.View (from entity ns))
    ∷ plain (λ ns. M.Sound (from sound ns))
    ∷ plain (λ ns. M.Time (from four ns))
    ∷ said 0 (λ ns t. M.Print t)
    ∷ said 0 (λ ns t. M.Stufftext t)
    ∷ plain (λ ns. M.SetAngles (from char ns) (from char (drop 1 ns)) (from char (drop 2 ns)))
    ∷ serverinfo
    ∷ said 1 (λ ns t. M.Style (from byte ns) t)
    ∷ said 1 (λ ns t. M.Name (from player ns) t)
    ∷ plain (λ ns. M.Frags (from player ns) (from short (drop 1 ns)))
    ∷ plain (λ ns. M.Clientdata (from clientdata ns))
    ∷ plain (λ ns. M.Stopsound (from byte ns) (from entity (drop 1 ns)))
    ∷ plain (λ ns. M.Colours (from player ns) (from byte (drop 1 ns)))
    ∷ plain (λ ns. M.Particle (from particle ns))
    ∷ plain (λ ns. M.Damage (from byte ns) (from byte (drop 1 ns)) (from vector (drop 2 ns)))
    ∷ plain (λ ns. M.Static (from look ns) (from pose (drop 4 ns)))
    ∷ plain (λ ns. M.Nop)
    ∷ plain (λ ns. M.Baseline (from entity ns) (from look (drop 1 ns)) (from pose (drop 5 ns)))
    ∷ plain (λ ns. M.Temporary (temporary_from ns))
    ∷ plain (λ ns. M.Pause (from byte ns))
    ∷ plain (λ ns. M.Signon (from byte ns))
    ∷ said 0 (λ ns t. M.Centerprint t)
    ∷ plain (λ ns. M.Killed)
    ∷ plain (λ ns. M.Secret)
    ∷ plain (λ ns. M.StaticSound (from vector ns) (from byte (drop 3 ns)) (from byte (drop 4 ns)) (from byte (drop 5 ns)))
    ∷ plain (λ ns. M.Intermission)
    ∷ said 0 (λ ns t. M.Finale t)
    ∷ plain (λ ns. M.Track (from byte ns) (from byte (drop 1 ns)))
    ∷ plain (λ ns. M.Sellscreen)
    ∷ said 0 (λ ns t. M.Cutscene t)
    ∷ []

abbrev pub message_from : ℕ → List Value → Message
message_from end vs =
    cond (is_update (first_number vs)) (M.Update (from update (numbers vs))) (get_or kinds (first_number vs) (plain (λ ns. M.Nop)) end (tail vs))

-- ---- strings

inside : (s : List ℕ) (p : Text) → p.start + p.len ≤ length s → length (placed s p) ≡ p.len
inside s p h = ap length (placed_inside s p h) ∙ length-take-le p.len (drop p.start s) (omega (arith, length-drop p.start s))

module _ (s : List ℕ) (end : ℕ) (within : end ≤ length s) where
  ending_back : (p : Text) → ends_at end p ≡ true → ending end (placed s p) ≡ p
  ending_back p e =
      let h : p.start + p.len + 1 ≡ end = eqb-true (p.start + p.len + 1) end e in
      let n : length (placed s p) ≡ p.len = inside s p (omega arith) in
      let a : end - (length (placed s p) + 1) ≡ p.start = omega arith in
      λ i. record { start = a i; len = n i }

  names_back : (p : Text) → eqb (p.start + p.len) end ≡ true → Texts (names_in [] (placed s p)) → names_ending end (names_in [] (placed s p)) ≡ p
  names_back p e t =
      let h : p.start + p.len ≡ end = eqb-true (p.start + p.len) end e in
      let n : length (joined (names_in [] (placed s p))) ≡ p.len = ap length (names_joined [] (placed s p) t) ∙ omega (arith, inside s p (omega arith)) in
      let a : end - length (joined (names_in [] (placed s p))) ≡ p.start = omega arith in
      λ i. record { start = a i; len = n i }

-- ---- and there again

-- The fields of a value's own variant.
abbrev pub Fit : Message → Type 0
Fit m = Fields (variants MessageType.the_type) (spellss (MessageType.the_type).parts MessageLaws.the_laws) ((MessageType.the_type).to m)

temporary_back : (k : Temporary)
    → Fields (variants TemporaryType.the_type) (spellss (TemporaryType.the_type).parts TemporaryLaws.the_laws) ((TemporaryType.the_type).to k)
    → temporary_from (numbers (temporary_values k)) ≡ k
temporary_back (Point k v) h = ap (Point k) (from_front vector v _ h.1.0 [])
temporary_back (Line k e v w) h = ap₂ (Line k e) (from_front vector v _ h.1.1.0 (vector.out w)) (from_front vector w _ h.1.1.1.0 [])
temporary_back (Explosion2 v first count) h = ap (λ u. Explosion2 u first count) (from_front vector v _ h.0 (first ∷ count ∷ []))

module _ (x : Context) (s : List ℕ) (end : ℕ) (within : end ≤ length s) where
  serverinfo_back : (d : Serverinfo) → Fit (M.Serverinfo d) → in_place end (M.Serverinfo d) ≡ true → Allowed (layout x) (values_of s (M.Serverinfo d))
      → serverinfo end (serverinfo_values (placed s) d) ≡ M.Serverinfo d
  unfolding layout kind_layout
  serverinfo_back d h e a =
      let both = and_true (ends_at d.names.start d.map) (eqb (d.names.start + d.names.len) end) e in
      let last : d.names.start + d.names.len ≡ end = eqb-true (d.names.start + d.names.len) end both.1 in
      let names = names_back s end within d.names both.1 (lists_texts name_limit (names_in [] (placed s d.names)) a.2.2.2.2.2) in
      let map = ending_back s d.names.start (omega arith) d.map both.0 in
      let protocol = from_front long d.protocol _ h.0.1.1.0 [] in
      ap (info_with (from long (long.out d.protocol)) d.limit d.game (placed s d.map)) names
      ∙ (λ i. M.Serverinfo (record { protocol = protocol i; limit = d.limit; game = d.game; map = map i; names = d.names }))

  back : (m : Message) → Fit m → in_place end m ≡ true → Allowed (layout x) (values_of s m)
      → ((u : Update) → m ≡ M.Update u → is_update u.number ≡ true) → message_from end (values_of s m) ≡ m
  unfolding layout kind_layout
  back M.Nop h e a u = refl
  back M.Disconnect h e a u = refl
  back (M.Stat i v) h e a u = ap (M.Stat i) (from_front long v _ h.1.0 [])
  back (M.Version v) h e a u = ap M.Version (from_front long v _ h.0 [])
  back (M.View i) h e a u = refl
  back (M.Sound d) h e a u = ap M.Sound (from_front sound d _ h.0 [])
  back (M.Time v) h e a u = refl
  back (M.Print p) h e a u = ap M.Print (ending_back s end within p e)
  back (M.Stufftext p) h e a u = ap M.Stufftext (ending_back s end within p e)
  back (M.SetAngles b c d) h e a u =
      λ i. M.SetAngles (from_front char b _ h.0 [] i) (from_front char c _ h.1.0 [] i) (from_front char d _ h.1.1.0 [] i)
  back (M.Serverinfo d) h e a u = serverinfo_back d h e a
  back (M.Style i p) h e a u = ap (M.Style i) (ending_back s end within p e)
  back (M.Name i p) h e a u = ap (M.Name i) (ending_back s end within p e)
  back (M.Frags p v) h e a u = ap (M.Frags p) (from_front short v _ h.1.0 [])
  back (M.Clientdata d) h e a u = ap M.Clientdata (from_front clientdata d _ h.0 [])
  back (M.Stopsound c i) h e a u = refl
  back (M.Colours p v) h e a u = refl
  back (M.Particle d) h e a u = ap M.Particle (from_front particle d _ h.0 [])
  back (M.Damage b c v) h e a u = ap (M.Damage b c) (from_front vector v _ h.1.1.0 [])
  back (M.Static l p) h e a u = ap (M.Static l) (from_front pose p _ h.1.0 [])
  back (M.Baseline i l p) h e a u = ap (M.Baseline i l) (from_front pose p _ h.1.1.0 [])
  back (M.Temporary k) h e a u = ap M.Temporary (temporary_back k (owed TemporaryType.the_type TemporaryLaws.the_laws k _ h.0))
  back (M.Pause v) h e a u = refl
  back (M.Signon v) h e a u = refl
  back (M.Centerprint p) h e a u = ap M.Centerprint (ending_back s end within p e)
  back M.Killed h e a u = refl
  back M.Secret h e a u = refl
  back (M.StaticSound v b c d) h e a u = ap (λ w. M.StaticSound w b c d) (from_front vector v _ h.0 (b ∷ c ∷ d ∷ []))
  back M.Intermission h e a u = refl
  back (M.Finale p) h e a u = ap M.Finale (ending_back s end within p e)
  back (M.Track b c) h e a u = refl
  back M.Sellscreen h e a u = refl
  back (M.Cutscene p) h e a u = ap M.Cutscene (ending_back s end within p e)
  back (M.Update d) h e a u =
      let other = get_or kinds d.number (plain (λ ns. M.Nop)) end (tail (update_values d)) in
      ap (λ (b : Bool). cond b (M.Update (from update (update.out d))) other) (u d refl) ∙ ap M.Update (from_front update d _ h.0 [])

  -- What holds of a message that was read from these bytes and ends there.
  pub record Read (m : Message) : Type 0 where
    pub held : Held (row MessageType.the_type) m
    pub at : in_place end m ≡ true
    pub allowed : Allowed (layout x) (values_of s m)
    pub numbered : (u : Update) → m ≡ M.Update u → is_update u.number ≡ true

  pub message_back : (m : Message) → Read m → message_from end (values_of s m) ≡ m
  message_back m r = back m (owed MessageType.the_type MessageLaws.the_laws m r.held.0 r.held.1) r.at r.allowed r.numbered

  pub message_fixed : (m n : Message) → Read m → Read n → values_of s m ≡ values_of s n → m ≡ n
  message_fixed m n r q e = sym (message_back m r) ∙ ap (message_from end) e ∙ message_back n q
