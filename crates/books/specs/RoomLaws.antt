-- The laws of the rules of the room book.
use Rattle.std.specs.Prelude.{◌≡◌, ℕ, ◌<◌, true, None}
use Rattle.windows.specs.Kinds.{Of}
use Rattle.sets.specs.Masks.{parts}
use Rattle.sets.specs.MaskLaws.{parts_proper}
use Rattle.rulebook.specs.Rules.{Lawful}
use Rattle.pairs.proofs.PairLaws.{same_lawful, differ_lawful, pair_within, pair_near}
use Rattle.steps.proofs.StepLaws.{step_lawful, step_within}
use Rattle.books.specs.Room.{room_rule, room_meaning, room_asks}
use Rattle.books.specs.declared.post.RoomPost.{RoomPost}
use Rattle.books.specs.declared.post.RoomPost.TheVariants as post
use Rattle.books.specs.declared.room.RoomRule.{RoomRule}
use Rattle.books.specs.declared.room.RoomRule.TheVariants as room

pub room_lawful : (r : RoomRule) → Lawful (Of parts) (room_rule r)
room_lawful (room.Differ x) = differ_lawful parts parts_proper x.p x.q
room_lawful (room.Same x) = same_lawful parts parts_proper x.p x.q
room_lawful (room.Step s) = step_lawful s.distance s.pair.p s.pair.q

pub room_near : (r : RoomRule) (j : ℕ) → (room_rule r).reads j ≡ true → j < 64
room_near (room.Differ x) j h = pair_near x.p x.q j x.apart h
room_near (room.Same x) j h = pair_near x.p x.q j x.apart h
room_near (room.Step s) j h = pair_near s.pair.p s.pair.q j s.pair.apart h

pub room_within : (p : RoomPost) (n j : ℕ) → room_asks p n ≡ None → (room_meaning p).reads j ≡ true → j < n
room_within (post.Differ p q) n j e h = pair_within p q n j e h
room_within (post.Same p q) n j e h = pair_within p q n j e h
room_within (post.Step p q k) n j e h = step_within p q k n j e h

-- every posting is lawful, accepted or not
pub room_post_lawful : (p : RoomPost) → Lawful (Of parts) (room_meaning p)
room_post_lawful (post.Differ p q) = differ_lawful parts parts_proper p q
room_post_lawful (post.Same p q) = same_lawful parts parts_proper p q
room_post_lawful (post.Step p q k) = step_lawful k p q
