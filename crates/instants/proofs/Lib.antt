-- Laws. Impossible: a case that cannot occur. FirstRefusal: refusals in their order. Signs: a day number in range and its index. Accepted: what an
-- accepted instant has, and how a service hands its refusals on. LaterInstants: which later instants are accepted, and how much later they are. Moments: n and x of one instant. Order: moments in the
-- order of instants.
-- The folders prove the functions of src/.
pub mod Impossible
pub mod FirstRefusal
pub mod Signs
pub mod Accepted
pub mod AcceptedMoment
pub mod LaterInstants
pub mod Moments
pub mod Order
