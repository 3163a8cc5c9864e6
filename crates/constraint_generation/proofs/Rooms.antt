-- The room of joint solves.
use Rattle.std.proofs.Common.{◌≡◌, ℕ, ◌+◌, ◌<◌, ◌≤◌, List, [], ◌∷◌, ◌++◌, length, subst, arith}
use Rattle.std.proofs.lemmas.List.{length-append}
use Rattle.search_laws.specs.Sizes.{AreFewStates}
use Rattle.search_laws.proofs.FewStates.{few_are}
use Rattle.constraint_generation.specs.declared.solve_room.SolveRoom.{SolveRoom}
use Rattle.constraint_generation.specs.Rooms.{IsSolveRoom, KeepsSolveRoom, states_within}

-- room for fewer states
pub fewer_states : {A : Type 0} (orders many few : ℕ) (room : SolveRoom A) → few ≤ many → IsSolveRoom orders many room → IsSolveRoom orders few room
fewer_states orders many few room le h =
    record { rows = omega (arith, le, h.rows); columns = h.columns; row = h.row; fills = h.fills; points = omega (arith, le, h.points) }

-- room that is kept
pub kept_room : {A : Type 0} (orders states : ℕ) (old new : SolveRoom A) → KeepsSolveRoom old new → IsSolveRoom orders states old → IsSolveRoom orders states new
kept_room orders states old new kept h =
    record {
      rows = omega (arith, kept.space.0, h.rows);
      columns = omega (arith, kept.space.1, h.columns);
      row = omega (arith, kept.row, h.row);
      fills = omega (arith, kept.fills, h.fills);
      points = omega (arith, kept.points, h.points);
    }

-- the states of a round have room, the first one among them
pub within_room : (n budget start spent : ℕ) (states : List (List ℕ)) → AreFewStates n budget start states spent → length states + 1 ≤ states_within n budget
within_room n budget start spent states h = omega (arith, few_are n budget start spent states h)

-- and so has the state that it finds
pub one_more_fits : (n budget start spent room : ℕ) (states : List (List ℕ)) (z : List ℕ) → AreFewStates n budget start (states ++ (z ∷ [])) spent → states_within n budget ≤ room + 1 → length states < room
one_more_fits n budget start spent room states z h le = omega (arith, few_are n budget start spent (states ++ (z ∷ [])) h, length-append states (z ∷ []), le)

pub room_as : {A : Type 0} (k k' m m' : ℕ) (room : SolveRoom A) → k ≡ k' → m ≡ m' → IsSolveRoom k m room → IsSolveRoom k' m' room
room_as k k' m m' room e f h = subst (λ (m : ℕ). IsSolveRoom k' m room) f (subst (λ (k : ℕ). IsSolveRoom k m room) e h)
