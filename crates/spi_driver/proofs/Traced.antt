-- What the calls of a driver add to the trace of its bus.
use Rattle.std.proofs.Common.{◌≡◌, ℕ, zero, suc, ◌+◌, ◌<◌, ◌≤◌, Bool, true, false, cond, List, [], ◌∷◌, ◌++◌, length, get_or, drop, set, Ok, Err, Result, sym, refl, ap, ◌∙◌, arith}
use Rattle.std.proofs.lemmas.List.{append-nil, drop-set-lt}
use Rattle.datasheet.specs.declared.command.Command.TheVariants.{Wren, Wrdi}
use Rattle.datasheet.specs.declared.refusal.Refusal.{Refusal}
use Rattle.datasheet.specs.declared.refusal.Refusal.TheVariants.{UnknownId}
use Rattle.datasheet.specs.Sheets.{density_of}
use Rattle.datasheet.specs.Machines.{left_by}
use Rattle.datasheet.proofs.Machines.{left_behind}
use Rattle.spi_model.specs.declared.bus_call.BusCall.{BusCall}
use Rattle.spi_model.specs.declared.bus_call.BusCall.TheVariants.{Select, Exchange, Deselect}
use Rattle.spi_model.specs.Buses.{Bus, session_calls}
use Rattle.spi_bus.proofs.Listed.{Going, one_on, all_made}
use Rattle.spi_driver.specs.Drives.{probed}
use Rattle.spi_driver.specs.Exchanges.{exchanges}
use Rattle.spi_driver.specs.Sessions.{session_of, zeros, address_of, asking_status, reading, writing, probing, surveying, if_done}

-- a blank chip's ID is not known
pub blank_by : {S : Type 0} {e : Refusal} (b : Bus S) → Err e ≡ probed b → b.fitted ≡ false
blank_by {e = x} b h = go b.fitted h
  where
    go : (f : Bool) → ◌≡◌ {A = Result ℕ Refusal} (Err x) (cond f (Ok (density_of b.sheet.t)) (Err UnknownId)) → f ≡ false
    go true e = absurd (cc)
    go false e = refl

module _ {T : Type 0} (traced : T → BusCall → T) where
  -- ## Bytes exchanged one after the other

  abbrev by_bytes : T → List ℕ → T
  by_bytes t xs = left_by traced t (exchanges xs)

  goes : Going (λ (t : T) (x : ℕ). traced t (Exchange x)) (λ (t : T) (x : ℕ). x) by_bytes (λ (t : T) (xs : List ℕ). xs)
  goes = record { stays = λ t. refl; runs = λ t x xs. refl; ends = λ t. refl; answered = λ t x xs. refl }

  module _ (t u : T) (xs : List ℕ) (i x : ℕ) (l : i < length xs) (then : u ≡ traced t (Exchange (get_or xs i x))) (end : T) (h : by_bytes t (drop i xs) ≡ end) where
    pub one_sent : by_bytes u (drop (i + 1) xs) ≡ end
    one_sent = one_on _ _ _ _ goes t u xs i x l then end h

    -- where the byte that is read is put in the place of the byte that was sent
    pub one_replaced : (a : ℕ) → by_bytes u (drop (i + 1) (set xs i a)) ≡ end
    one_replaced a = ap (by_bytes u) (drop-set-lt (i + 1) xs i a (omega arith)) ∙ one_sent

  pub all_sent : (t : T) (xs : List ℕ) (i : ℕ) → length xs ≤ i → (end : T) → by_bytes t (drop i xs) ≡ end → t ≡ end
  all_sent t xs i l end h = all_made _ _ _ _ goes t xs i l end h

  -- ## Sessions

  module _ (t : T) where
    pub session_traced : (xs : List ℕ) → traced (by_bytes (traced t Select) xs) Deselect ≡ left_by traced t (session_calls xs)
    session_traced xs = sym (left_behind traced (traced t Select) (exchanges xs) (Deselect ∷ []))

    abbrev addressed : ℕ → ℕ → T
    addressed code start = left_by traced t (Select ∷ exchanges (code ∷ address_of start))

    pub read_traced : (start n : ℕ) → traced (by_bytes (addressed 0x03 start) (zeros n)) Deselect ≡ left_by traced t (reading start n)
    read_traced start n = sym (left_behind traced (addressed 0x03 start) (exchanges (zeros n)) (Deselect ∷ []))

  module _ (t : T) where
    pub write_traced : (start : ℕ) (bytes : List ℕ) →
        left_by traced (traced (by_bytes (addressed (left_by traced t (session_of Wren [])) 0x02 start) bytes) Deselect) (session_of Wrdi [])
        ≡ left_by traced t (writing start bytes)
    write_traced start bytes =
        let at : T = addressed (left_by traced t (session_of Wren [])) 0x02 start in
        sym (left_behind traced at (exchanges bytes ++ Deselect ∷ []) (session_of Wrdi [])
        ∙ ap (λ (u : T). left_by traced u (session_of Wrdi [])) (left_behind traced at (exchanges bytes) (Deselect ∷ [])))

  -- ## Calls

  module _ {S : Type 0} (b : Bus S) (t u : T) where
    pub surveyed : b.fitted ≡ true → u ≡ left_by traced (left_by traced t probing) asking_status → u ≡ left_by traced t (surveying b)
    surveyed e h = h ∙ ap (λ (f : Bool). left_by traced t (probing ++ cond f asking_status [])) (sym e)

    pub surveyed_blank : b.fitted ≡ false → u ≡ left_by traced t probing → u ≡ left_by traced t (surveying b)
    surveyed_blank e h = h ∙ ap (λ (f : Bool). left_by traced t (probing ++ cond f asking_status [])) (sym e)

    module _ (calls : List BusCall) where
      -- a refused call exchanges no more
      pub refused_more : {e : Refusal} (r : Result (Unit {0}) Refusal) (n : ℕ) → Err e ≡ r → u ≡ left_by traced t (surveying b) →
          u ≡ left_by traced t (surveying b ++ if_done r n calls)
      refused_more r n e h =
          h ∙ ap (left_by traced t) (sym (append-nil (surveying b))) ∙ ap (λ (q : Result (Unit {0}) Refusal). left_by traced t (surveying b ++ if_done q n calls)) e

      -- an accepted one of some cells makes these besides
      pub done_more : {v : Unit {0}} (r : Result (Unit {0}) Refusal) (n : ℕ) → Ok v ≡ r → 0 < n →
          u ≡ left_by traced (left_by traced t (surveying b)) calls → u ≡ left_by traced t (surveying b ++ if_done r n calls)
      done_more {v} r n e some h =
          h ∙ sym (left_behind traced t (surveying b) calls) ∙ ap (λ (xs : List BusCall). left_by traced t (surveying b ++ xs)) (sym (go n some) ∙ ap (λ (q : Result (Unit {0}) Refusal). if_done q n calls) e)
        where
          go : (k : ℕ) → 0 < k → if_done (Ok v) k calls ≡ calls
          go zero l = absurd (omega arith)
          go (suc k) l = refl
