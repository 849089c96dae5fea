mod Glides
mod Push
mod Law
